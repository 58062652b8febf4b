-- Tests and facts: what a test that holds says, how a test is shown, and choices by a test. Assumes nothing.
use mathlib.Core.Path.{◌≡◌, refl, sym, ap, ap₂, ◌∙◌}
use mathlib.Core.Bool.{Bool, true, false, not, cond, ◌&&◌, ◌||◌}
use mathlib.Core.Logic.{◌≢◌, ◌⊎◌, inl, inr, ⊎_elim}
use Prim.Native.Nat.{ℕ, zero, suc, ◌+◌, ◌*◌, ◌<◌, ◌≤◌}
use native.Mathlib.Decide.{dec_lt}
use native.Mathlib.Nat.{add-suc, add-zero, eq-or-lt_of_le, mul-zero, mul-suc}
use native.Mathlib.Numerals.{add-one}
use native.Mathlib.Omega.{arith}
use borrow.Author.Tests.{lt-ltb, le-ltb}
use lib.Dec.{T, ltb}
use Rattle.laws.specs.Table.{all_below, some_below}

-- ---- one test
pub true_t : (b : Bool) → b ≡ true → T b
true_t true e = tt
true_t false e = let z : ◌≡◌ {A = ℕ} 0 1 = cc in absurd (omega arith)

pub T_true : (b : Bool) → T b → b ≡ true
T_true true t = refl
T_true false t = absurd t

pub not_both : {b : Bool} → b ≡ true → b ≡ false → ⊥
not_both {b} e f = let z : ◌≡◌ {A = ℕ} 0 1 = cc in omega arith

pub no_from : {P : Type 0} (b : Bool) → (b ≡ true → P) → (P → ⊥) → b ≡ false
no_from true f g = absurd (g (f refl))
no_from false f g = refl

-- two tests that imply each other are equal
pub same_test : (a b : Bool) → (T a → T b) → (T b → T a) → a ≡ b
same_test true true f g = refl
same_test true false f g = absurd (f tt)
same_test false true f g = absurd (g tt)
same_test false false f g = refl

-- ---- two tests
pub and_assoc : (a b c : Bool) → a && b && c ≡ a && (b && c)
and_assoc true b c = refl
and_assoc false b c = refl

pub and_left : (a b : Bool) → a && b ≡ true → a ≡ true
and_left true b e = refl
and_left false b e = e

pub and_right : (a b : Bool) → a && b ≡ true → b ≡ true
and_right true b e = e
and_right false b e = absurd (not_both {b = false} e refl)

pub and_both : (a b : Bool) → a && b ≡ true → (a ≡ true) × (b ≡ true)
and_both a b e = (and_left a b e, and_right a b e)

pub and_of : {a b : Bool} → a ≡ true → b ≡ true → a && b ≡ true
and_of {a} {b} e f = rw (e, f)

pub and_no : (a b : Bool) → b ≡ false → a && b ≡ false
and_no true b e = e
and_no false b e = refl

pub and_some : (a b : Bool) → a && b ≡ false → (a ≡ false) ⊎ (b ≡ false)
and_some true b e = inr e
and_some false b e = inl refl

-- what follows from either of two tests follows from the one that holds
pub or_either : {P : Type 0} (a b : Bool) → (a ≡ true → P) → (b ≡ true → P) → a || b ≡ true → P
or_either true b f g e = f refl
or_either false b f g e = g e

pub or_left : (a b : Bool) → a ≡ true → a || b ≡ true
or_left a b e = rw e

pub or_right : (a b : Bool) → b ≡ true → a || b ≡ true
or_right true b e = refl
or_right false b e = e

pub both_left : (a b : Bool) → T (a && b) → T a
both_left true b t = tt
both_left false b t = t

pub both_right : (a b : Bool) → T (a && b) → T b
both_right true b t = t
both_right false b t = absurd t

pub both_of : (a b : Bool) → T a → T b → T (a && b)
both_of true b s t = t
both_of false b s t = s

-- the second test matters only where the first holds
pub and_same : (a : Bool) {b c : Bool} → (a ≡ true → b ≡ c) → a && b ≡ a && c
and_same true f = f refl
and_same false f = refl

-- a test that is asked only where another holds
pub implied : (a b : Bool) → not a || b ≡ true → a ≡ true → b ≡ true
implied true b e h = e
implied false b e h = absurd (not_both {b = false} h refl)

pub implied_of : (a b : Bool) → (a ≡ true → b ≡ true) → not a || b ≡ true
implied_of true b f = f refl
implied_of false b f = refl

pub implied_no : (a b : Bool) → not a || b ≡ false → (a ≡ true) × (b ≡ false)
implied_no true b e = (refl, e)
implied_no false b e = absurd (not_both refl e)

-- ---- choices
-- what holds of either alternative holds of the choice
pub choose : {A : Type 0} (P : A → Type 0) (t : Bool) (a b : A) → (t ≡ true → P a) → (t ≡ false → P b) → P (cond t a b)
choose P true a b f g = f refl
choose P false a b f g = g refl

-- choices by one test are related where their alternatives are
pub choose_both : {A : Type 0} (R : A → A → Type 0) (t : Bool) (a b c d : A) → (t ≡ true → R a c) → (t ≡ false → R b d) → R (cond t a b) (cond t c d)
choose_both R true a b c d f g = f refl
choose_both R false a b c d f g = g refl

-- and equal where those are
pub cond_same : {A : Type 0} (t : Bool) (a b c d : A) → (t ≡ true → a ≡ c) → (t ≡ false → b ≡ d) → cond t a b ≡ cond t c d
cond_same t a b c d = choose_both ◌≡◌ t a b c d

-- the same where one alternative is fixed
pub where_same : {A : Type 0} (t : Bool) (a b z : A) → (T t → a ≡ b) → cond t a z ≡ cond t b z
where_same true a b z f = f tt
where_same false a b z f = refl

-- ---- a test at every place below n, as a loop that leaves at the first failure shows it
pub all_none : (f : ℕ → Bool) → all_below 0 f ≡ true
unfolding all_below
all_none f = refl

pub all_more : (n : ℕ) (f : ℕ → Bool) → all_below n f ≡ true → f n ≡ true → all_below (n + 1) f ≡ true
unfolding all_below
all_more n f p q = rw (add-one, p) q

-- the same of a loop without a way out
pub all_next : (n : ℕ) (f : ℕ → Bool) → all_below n f && f n ≡ all_below (n + 1) f
unfolding all_below
all_next n f = rw (add-one n)

pub all_at : (n : ℕ) (f : ℕ → Bool) → all_below n f ≡ true → (i : ℕ) → i < n → f i ≡ true
unfolding all_below
all_at zero f p i h = absurd (omega arith)
all_at (suc n) f p i h =
    let low : i ≤ n = omega arith in
    ⊎_elim (λ (e : i ≡ n). ap f e ∙ and_right (all_below n f) (f n) p) (λ (l : i < n). all_at n f (and_left (all_below n f) (f n) p) i l) (eq-or-lt_of_le low)

pub all_no : (n : ℕ) (f : ℕ → Bool) (i : ℕ) → i < n → f i ≡ false → all_below n f ≡ false
all_no n f i h e = no_from (all_below n f) (λ g. all_at n f g i h) (λ g. not_both g e)

-- a test that does not hold everywhere fails somewhere
pub all_fails : (n : ℕ) (f : ℕ → Bool) → all_below n f ≡ false → (i : ℕ) × (i < n) × (f i ≡ false)
unfolding all_below
all_fails zero f e = absurd (not_both refl e)
all_fails (suc n) f e = go (all_below n f) e (all_fails n f)
  where
    go : (b : Bool) → b && f n ≡ false → (b ≡ false → (i : ℕ) × (i < n) × (f i ≡ false)) → (i : ℕ) × (i < suc n) × (f i ≡ false)
    go true h r = (n, omega arith, h)
    go false h r = let k = r refl in (k.0, omega (arith, k.1), k.2)

-- the other way: a test that holds at every place
pub all_of_lem : (n : ℕ) (f : ℕ → Bool) → ((i : ℕ) → i < n → f i ≡ true) → all_below n f ≡ true
unfolding all_below
all_of_lem zero f h = refl
all_of_lem (suc n) f h = and_of (all_of_lem n f (λ i l. h i (omega arith))) (h n (omega arith))

-- tests that agree at every place
pub all_same : (n : ℕ) (f g : ℕ → Bool) → ((i : ℕ) → i < n → f i ≡ g i) → all_below n f ≡ all_below n g
unfolding all_below
all_same zero f g h = refl
all_same (suc n) f g h = ap₂ ◌&&◌ (all_same n f g (λ i l. h i (omega arith))) (h n (omega arith))

-- two tests at each place
pub all_both : (n : ℕ) (f g : ℕ → Bool) → all_below n f && all_below n g ≡ all_below n (λ k. f k && g k)
unfolding all_below
all_both zero f g = refl
all_both (suc n) f g = swapped (all_below n f) (f n) (all_below n g) (g n) ∙ ap (λ t. t && (f n && g n)) (all_both n f g)
  where
    swapped : (a b c d : Bool) → (a && b) && (c && d) ≡ (a && c) && (b && d)
    swapped true true true d = refl
    swapped true true false d = refl
    swapped true false true d = refl
    swapped true false false d = refl
    swapped false b c d = refl

-- the places below m + n, those below m first
pub all_split : (m n : ℕ) (f : ℕ → Bool) → all_below (m + n) f ≡ all_below m f && all_below n (λ k. f (m + k))
unfolding all_below
all_split m zero f = ap (λ k. all_below k f) (add-zero m) ∙ alone (all_below m f)
  where
    alone : (t : Bool) → t ≡ t && true
    alone true = refl
    alone false = refl
all_split m (suc n) f =
    ap (λ k. all_below k f) (add-suc m n) ∙ ap (λ t. t && f (m + n)) (all_split m n f) ∙ and_assoc (all_below m f) (all_below n (λ k. f (m + k))) (f (m + n))

-- n groups of m each
pub all_groups : (m n : ℕ) (f : ℕ → Bool) → all_below n (λ b. all_below m (λ c. f (m * b + c))) ≡ all_below (m * n) f
unfolding all_below
all_groups m zero f = rw mul-zero
all_groups m (suc n) f = ap (λ t. t && all_below m (λ c. f (m * n + c))) (all_groups m n f) ∙ sym (all_split (m * n) m f) ∙ ap (λ k. all_below k f) (sym (mul-suc m n))

-- a loop without a way out, after another test: how it starts, and how it goes on
pub all_start : (x : Bool) (f : ℕ → Bool) → x ≡ x && all_below 0 f
unfolding all_below
all_start true f = refl
all_start false f = refl

pub all_after : (s x a : Bool) (n : ℕ) (f : ℕ → Bool) → s ≡ x && all_below n f → a ≡ f n → s && a ≡ x && all_below (n + 1) f
all_after s x a n f e g =
    ap₂ ◌&&◌ e g ∙ and_assoc x (all_below n f) (f n) ∙ ap (λ t. x && t) (all_next n f)

-- a rule that is computed at each place below n
pub below : (n : ℕ) (f : ℕ → Bool) → T (all_below n f) → (k : ℕ) → k < n → T (f k)
below n f t k h = true_t (f k) (all_at n f (T_true (all_below n f) t) k h)

-- ---- orders
pub ltb_next : (i c : ℕ) → i ≢ c → ltb i c ≡ ltb i (c + 1)
ltb_next i c q = go (dec_lt i c)
  where
    go : Dec (i < c) → ltb i c ≡ ltb i (c + 1)
    go (yes h) = lt-ltb i c h ∙ sym (lt-ltb i (c + 1) (omega arith))
    go (no h) = le-ltb i c (omega arith) ∙ sym (le-ltb i (c + 1) (omega arith))

-- ---- tests that hold at one of n numbers
pub some_none : (f : ℕ → Bool) → some_below 0 f ≡ false
unfolding some_below
some_none f = refl

pub some_next : (n : ℕ) (f : ℕ → Bool) → some_below n f || f n ≡ some_below (n + 1) f
unfolding some_below
some_next n f = rw (add-one n)

pub some_of : (n : ℕ) (f : ℕ → Bool) (k : ℕ) → k < n → f k ≡ true → some_below n f ≡ true
unfolding some_below
some_of zero f k h e = absurd (omega arith)
some_of (suc n) f k h e =
    let low : k ≤ n = omega arith in
    ⊎_elim (λ (z : k ≡ n). or_right (some_below n f) (f n) (sym (ap f z) ∙ e)) (λ (l : k < n). or_left (some_below n f) (f n) (some_of n f k l e)) (eq-or-lt_of_le low)

pub some_is : (n : ℕ) (f : ℕ → Bool) → some_below n f ≡ true → (k : ℕ) × (k < n) × (f k ≡ true)
unfolding some_below
some_is zero f e = absurd (not_both {b = false} e refl)
some_is (suc n) f e =
    or_either (some_below n f) (f n) (λ h. let k = some_is n f h in (k.0, omega (arith, k.1), k.2)) (λ h. (n, omega arith, h)) e
