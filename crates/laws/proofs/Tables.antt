-- A list that a loop fills from the front, one place a turn.
use mathlib.Core.Path.{◌≡◌, refl, sym, ap, ◌∙◌, subst}
use mathlib.Core.Bool.{Bool, true, false, cond}
use mathlib.Core.List.{List}
use Prim.Native.Nat.{ℕ, zero, suc, ◌+◌, ◌≤◌, ◌<◌}
use native.Mathlib.Nat.{le_of_suc-le-suc, not-suc-le-zero}
use native.Mathlib.Omega.{arith}
use lib.ListN.{length, get_or, set, replicate, length-set}
use lib.Seq.{ext_get_or, get_or-set_same, get_or-set_other}
use native.Mathlib.Decide.{dec_lt}
use Rattle.laws.specs.Table.{table}

module _ {A : Type 0} (d : A) where
  -- the first k places are f's
  pub record Filled (f : ℕ → A) (n k : ℕ) (l : List A) : Type 0 where
    pub long : length l ≡ n
    pub done : (i : ℕ) → i < k → get_or l i d ≡ f i

  pub filled_none : (f : ℕ → A) (n : ℕ) (l : List A) → length l ≡ n → Filled f n 0 l
  filled_none f n l e = record { long = e; done = λ i h. absurd (not-suc-le-zero h) }

  pub filled_more : (f : ℕ → A) (n k : ℕ) (l : List A) (x : A) → k < n → Filled f n k l → x ≡ f k → Filled f n (k + 1) (set l k x)
  filled_more f n k l x h g e = record { long = length-set l k x ∙ g.long; done = λ i b. place i b (dec_lt i k) }
    where
      place : (i : ℕ) → i < k + 1 → Dec (i < k) → get_or (set l k x) i d ≡ f i
      place i b (yes p) = get_or-set_other l k i x d (omega arith) ∙ g.done i p
      place i b (no p) =
          let q : k ≡ i = omega arith in
          subst (λ (m : ℕ). get_or (set l k x) m d ≡ f m) q (get_or-set_same l k x d (omega (arith, g.long)) ∙ e)

  pub length_table : (n : ℕ) (f : ℕ → A) → length (table n f) ≡ n
  unfolding table
  length_table zero f = refl
  length_table (suc n) f = ap suc (length_table n (λ k. f (suc k)))

  pub get_d_table : (n : ℕ) (f : ℕ → A) (i : ℕ) → i < n → get_or (table n f) i d ≡ f i
  unfolding table
  get_d_table zero f i h = absurd (not-suc-le-zero h)
  get_d_table (suc n) f zero h = refl
  get_d_table (suc n) f (suc i) h = get_d_table n (λ k. f (suc k)) i (le_of_suc-le-suc h)

  pub filled_all : (f : ℕ → A) (n k : ℕ) (l : List A) → n ≤ k → Filled f n k l → l ≡ table n f
  filled_all f n k l h g =
      ext_get_or d l (table n f) (g.long ∙ sym (length_table n f))
      (λ i b. g.done i (omega (arith, g.long)) ∙ sym (get_d_table n f i (omega (arith, g.long))))

  -- the table of a list's own places is the list
  pub filled_copy : (v : List A) (n k : ℕ) (l : List A) → n ≤ k → length v ≡ n → Filled (λ i. get_or v i d) n k l → l ≡ v
  filled_copy v n k l h e g = ext_get_or d l v (g.long ∙ sym e) (λ i b. g.done i (omega (arith, g.long)))

-- tables of equal entries are equal
pub table_same : {A : Type 0} (n : ℕ) (f g : ℕ → A) → ((i : ℕ) → i < n → f i ≡ g i) → table n f ≡ table n g
unfolding table
table_same zero f g h = refl
table_same (suc n) f g h = rw (h 0 (omega arith), table_same n (λ i. f (suc i)) (λ i. g (suc i)) (λ i l. h (suc i) (omega arith)))

pub table_const : {A : Type 0} (n : ℕ) (v : A) → table n (λ _. v) ≡ replicate n v
unfolding table
table_const zero v = refl
table_const (suc n) v = rw (table_const n v)

-- a table whose entries are there only where a test holds
pub table_there : {A : Type 0} (n : ℕ) (f : ℕ → A) (z : A) (b : Bool) (l : List A) → b ≡ true → l ≡ table n f → l ≡ table n (λ t. cond b (f t) z)
table_there n f z b l e h = rw e h

pub table_absent : {A : Type 0} (n : ℕ) (f : ℕ → A) (z : A) (b : Bool) (l : List A) → b ≡ false → l ≡ replicate n z → l ≡ table n (λ t. cond b (f t) z)
table_absent n f z b l e h = h ∙ sym (table_const n z) ∙ rw e

-- tables that are equal are equal at each place
pub table_at : {A : Type 0} (n : ℕ) (f g : ℕ → A) → table n f ≡ table n g → (i : ℕ) → i < n → f i ≡ g i
table_at n f g e i h = sym (get_d_table (f i) n f i h) ∙ ap (λ l. get_or l i (f i)) e ∙ get_d_table (f i) n g i h
