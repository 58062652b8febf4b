-- A square of side n that a loop puts column by column, and put. Assumes nothing.
use mathlib.Core.Path.{◌≡◌, refl, sym, ap, ap₂, ◌∙◌}
use mathlib.Core.Bool.{Bool, true, false, ◌&&◌}
use mathlib.Core.List.{List}
use Prim.Native.Nat.{ℕ, zero, suc, ◌+◌, ◌*◌, ◌/◌, ◌%◌, ◌≤◌, ◌<◌}
use native.Mathlib.Nat.{div-add-mod', div-lt_iff_lt-mul, mod-lt}
use native.Mathlib.Numerals.{add-one}
use native.Mathlib.Omega.{arith}
use borrow.Author.Tests.{lt-ltb, le-ltb, ltb-true}
use lib.Arith.{digits_div, digits_mod}
use lib.Dec.{ltb}
use lib.ListN.{length, set}
use Rattle.laws.specs.Patch.{patch}
use Rattle.laws.specs.Table.{onto}
use Rattle.laws.proofs.Digits.{row_in}
use Rattle.laws.proofs.Ontos.{onto_none, onto_more}
use Rattle.laws.proofs.Patches.{patch_none, patch_set, patch_same, front, front_none, front_more}
use Rattle.laws.proofs.Tests.{and_of, and_no, ltb_next}

-- the two ways to say that the first k places are put
pub front_onto : (k : ℕ) (f : ℕ → ℕ) (l : List ℕ) → k ≤ length l → front f k l ≡ onto k f l
front_onto zero f l h = sym (front_none f l) ∙ onto_none f l
front_onto (suc k) f l h =
    let e : front f (k + 1) l ≡ onto (k + 1) f l =
    sym (front_more f k (f k) l (front f k l) (omega arith) refl refl) ∙ onto_more k f l (front f k l) (omega arith) (front_onto k f l (omega arith)) refl in
    rw (add-one k) at e

module _ (n : ℕ) (f : ℕ → ℕ) (l : List ℕ) where
  -- the turn of place i
  abbrev turn : ℕ → ℕ
  turn i = i % n * n + i / n

  abbrev come : ℕ → ℕ → Bool
  come k i = ltb i (n * n) && ltb (turn i) k

  -- the places of the first k turns are put
  abbrev pub columns : ℕ → List ℕ
  columns k = patch (come k) f l

  pub columns_none : l ≡ columns 0
  columns_none = patch_none (come 0) f l (λ i. and_no (ltb i (n * n)) (ltb (turn i) 0) (le-ltb (turn i) 0 (omega arith)))

  -- row and column of a place of the square
  inside : (i : ℕ) → i < n * n → (i % n < n) × (i / n < n)
  inside i h = let some : 0 < n = positive n h in (mod-lt i some, (div-lt_iff_lt-mul some).1 h)
    where
      positive : (n : ℕ) → i < n * n → 0 < n
      positive zero h = absurd (omega arith)
      positive (suc n) h = omega arith

  pub columns_more : (x y : ℕ) {v : ℕ} (l' : List ℕ) → x < n → y < n → n * n ≤ length l → l' ≡ columns (x * n + y) → v ≡ f (y * n + x)
      → set l' (y * n + x) v ≡ columns (x * n + (y + 1))
  columns_more x y l' hx hy long e ev =
      let c : ℕ = y * n + x in
      let k : ℕ = x * n + y in
      let low : c < n * n = omega (arith, row_in y n hy) in
      let now : turn c ≡ k = ap₂ (λ a b. a * n + b) (digits_mod y hx) (digits_div y hx) in
      ap₂ (λ (t : List ℕ) (w : ℕ). set t c w) e ev
      ∙ patch_set (come k) (come (k + 1)) f l c (omega arith) (and_of (lt-ltb c (n * n) low) (lt-ltb (turn c) (k + 1) (omega arith))) (λ i q. go i q (ltb i (n * n)) refl)
      ∙ ap (λ (j : ℕ). patch (come j) f l) (omega arith)
    where
      go : (i : ℕ) → (i ≡ y * n + x → ⊥) → (b : Bool) → ltb i (n * n) ≡ b → b && ltb (turn i) (x * n + y) ≡ b && ltb (turn i) (x * n + y + 1)
      go i q false h = refl
      go i q true h =
          let (a, b) = inside i (ltb-true _ _ h) in
          ltb_next (turn i) (x * n + y) (λ t.
          let u : i % n ≡ x = sym (digits_div (i % n) b) ∙ ap (λ m. m / n) t ∙ digits_div x hy in
          let v : i / n ≡ y = sym (digits_mod (i % n) b) ∙ ap (λ m. m % n) t ∙ digits_mod x hy in
          q (sym (div-add-mod' i n) ∙ ap₂ (λ r s. r * n + s) v u))

  pub columns_all : n * n ≤ length l → columns (n * n) ≡ onto (n * n) f l
  columns_all long = patch_same (come (n * n)) (λ i. ltb i (n * n)) f f l (λ i. go i (ltb i (n * n)) refl) (λ _ _. refl) ∙ front_onto (n * n) f l long
    where
      go : (i : ℕ) (b : Bool) → ltb i (n * n) ≡ b → b && ltb (turn i) (n * n) ≡ b
      go i false h = refl
      go i true h = let (a, b) = inside i (ltb-true _ _ h) in lt-ltb (turn i) (n * n) (omega (arith, row_in (i % n) n a))
