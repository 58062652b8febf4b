-- Turning a block on its side: left is exchanged with the first n samples above, and the mark of left with that of above. Some modes of 4x4 and 8x8 luma
-- prediction (8.3.1.2, 8.3.2.2) then predict the transposed block.
use Rattle.std.specs.Prelude.{◌≡◌, Bool, true, ◌&&◌, ◌||◌, ℕ, ◌+◌, ◌-◌, ◌≤◌, ◌<◌, eqb}
use Rattle.basics.specs.Marks.{permitted_nxn}
use Rattle.basics.specs.Near.{Near}

-- the modes that are partners (Tables 8-2 and 8-3): vertical and horizontal, vertical-right and horizontal-down; DC and diagonal down-right are their own
abbrev pub partners : ℕ → ℕ → Bool
partners m m' =
    (eqb m 0 && eqb m' 1)
    || (eqb m 1 && eqb m' 0)
    || (eqb m 5 && eqb m' 6)
    || (eqb m 6 && eqb m' 5)
    || (eqb m 2 && eqb m' 2)
    || (eqb m 4 && eqb m' 4)

-- q is p after the exchange, as far as p's marks go; the samples above and to the right are not exchanged, and may be any in both
pub record Exchanged (n : ℕ) (above left corner : Bool) (p q : Near) : Type 0 where
  pub to_left : above ≡ true → (i : ℕ) → 1 ≤ i → i ≤ n → q 0 i ≡ p i 0
  pub to_above : left ≡ true → (i : ℕ) → 1 ≤ i → i ≤ n → q i 0 ≡ p 0 i
  pub same_corner : corner ≡ true → q 0 0 ≡ p 0 0

-- a neighbourhood with rows and columns exchanged
abbrev pub on_side : Near → Near
on_side p i j = p j i

-- sample k above, from 0 on
abbrev pub row_above : Near → ℕ → ℕ
row_above p k = p (k + 1) 0

-- what is asked of a row above: nothing
abbrev pub Any : (ℕ → ℕ) → Type 0
Any row = Unit {0}

-- or that sample n equals sample n - 1
abbrev pub Level : ℕ → (ℕ → ℕ) → Type 0
Level n row = row n ≡ row (n - 1)

-- Of `pred`, by mode, marks, neighbourhood, column and row, for a block of side n: where both are permitted, m' predicts after the exchange the transposed
-- block of m. `Before` and `After` are asked of the row above, where it is there, before and after the exchange
abbrev pub Transposes : ℕ → (ℕ → Bool → Bool → Bool → Near → ℕ → ℕ → ℕ) → ((ℕ → ℕ) → Type 0) → ((ℕ → ℕ) → Type 0) → ℕ → ℕ → Type 0
Transposes n pred Before After m m' =
    (above left corner : Bool) (p q : Near) → permitted_nxn above left corner m ≡ true → permitted_nxn left above corner m' ≡ true
    → Exchanged n above left corner p q → (above ≡ true → Before (row_above p)) → (left ≡ true → After (row_above q))
    → (x y : ℕ) → x < n → y < n → pred m' left above corner q y x ≡ pred m above left corner p x y
