-- The largest of some numbers. Assumes nothing.
use mathlib.Core.Path.{◌≡◌, refl, ◌∙◌}
use mathlib.Core.List.{List}
use Prim.Native.Nat.{ℕ, zero, suc, ◌+◌, ◌<◌, ◌≤◌, max, zero-le}
use native.Mathlib.Decide.{dec_lt, ℕ_discrete}
use native.Mathlib.Nat.{not-suc-le-zero}
use native.Mathlib.Numerals.{add-one}
use native.Mathlib.Omega.{arith}
use lib.ListN.{length, get_or, set, length-set}
use lib.Seq.{get_or-set_same, get_or-set_other}
use Rattle.turn_count.specs.Due.{latest}
use Rattle.turn_count.specs.inner.Late.{RunOn}

-- none is larger, and it is one of them
pub latest_upper : (n : ℕ) (f : ℕ → ℕ) (i : ℕ) → i < n → f i ≤ latest n f
unfolding latest
latest_upper zero f i h = absurd (not-suc-le-zero h)
latest_upper (suc n) f i h = go (dec_lt i n) (latest_upper n f i)
  where
    go : Dec (i < n) → (i < n → f i ≤ latest n f) → f i ≤ max (latest n f) (f n)
    go (yes l) g = omega (arith, g l)
    go (no l) g = let e : i ≡ n = omega arith in rw e (omega arith)

pub latest_least : (n : ℕ) (f : ℕ → ℕ) (t : ℕ) → ((i : ℕ) → i < n → f i ≤ t) → latest n f ≤ t
unfolding latest
latest_least zero f t g = zero-le
latest_least (suc n) f t g = omega (arith, latest_least n f t (λ i h. g i (omega arith)), g n (omega arith))

pub latest_along : (m n : ℕ) (f : ℕ → ℕ) → m ≤ n → latest m f ≤ latest n f
latest_along m n f l = latest_least m f (latest n f) (λ i h. latest_upper n f i (omega arith))

pub latest_same : (n : ℕ) (f g : ℕ → ℕ) → ((i : ℕ) → i < n → f i ≡ g i) → latest n f ≡ latest n g
unfolding latest
latest_same zero f g e = refl
latest_same (suc n) f g e = rw (latest_same n f g (λ i h. e i (omega arith)), e n (omega arith))

-- as a loop finds it
pub latest_none : (f : ℕ → ℕ) → 0 ≡ latest 0 f
unfolding latest
latest_none f = refl

pub latest_more : (n : ℕ) (f : ℕ → ℕ) (m d : ℕ) → m ≡ latest n f → d ≡ f n → max m d ≡ latest (n + 1) f
unfolding latest
latest_more n f m d e g = rw (add-one n, e, g)

-- a row whose first k numbers are the largest so far of another row
pub record Running (old : List ℕ) (k last : ℕ) (now : List ℕ) : Type 0 where
  pub largest : last ≡ latest k (λ j. get_or old j 0)
  pub long : length now ≡ length old
  pub passed : (i : ℕ) → i < k → get_or now i 0 ≡ latest (i + 1) (λ j. get_or old j 0)

pub running_none : (old now : List ℕ) → length now ≡ length old → Running old 0 0 now
running_none old now e = record { largest = latest_none (λ j. get_or old j 0); long = e; passed = λ i h. absurd (not-suc-le-zero h) }

pub running_more : (old now : List ℕ) (k last n : ℕ) → k < length now → n ≡ max last (get_or old k 0) → Running old k last now
    → Running old (k + 1) n (set now k n)
running_more old now k last n h e r = record {
  largest = more;
  long = length-set now k n ∙ r.long;
  passed = λ i l. at i l (ℕ_discrete i k);
}
  where
    more : n ≡ latest (k + 1) (λ j. get_or old j 0)
    more = e ∙ latest_more k (λ j. get_or old j 0) last (get_or old k 0) r.largest refl

    at : (i : ℕ) → i < k + 1 → Dec (i ≡ k) → get_or (set now k n) i 0 ≡ latest (i + 1) (λ j. get_or old j 0)
    at i l (yes q) = rw q (get_or-set_same now k n 0 h ∙ more)
    at i l (no q) = get_or-set_other now k i n 0 q ∙ r.passed i (omega arith)

pub running_all : (old now : List ℕ) (k last : ℕ) → k ≡ length old → Running old k last now → RunOn old now
running_all old now k last e r = record { long = r.long; is = λ i l. r.passed i (omega arith) }
