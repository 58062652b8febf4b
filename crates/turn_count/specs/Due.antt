-- When each macroblock is due: the turn in which it is listed, counted from 1.
use Rattle.std.specs.Prelude.{cond, List, ℕ, zero, suc, ◌+◌, ◌-◌, max, ltb}
use Rattle.maps.specs.Neighbours.{Side, beside_x, beside_y, available}
use Rattle.maps.specs.Neighbours.Side.{B, C, D}

-- the latest of the available neighbours above, where `above i` is when column i of the row above is due, and 0 where none is available
unfoldable pub latest_above : (w : ℕ) (slices : List ℕ) (above : ℕ → ℕ) (x y : ℕ) → ℕ
latest_above w slices above x y = max (of B) (max (of C) (of D))
  where
    of : Side → ℕ
    of k = cond (available w slices x y k) (above (beside_x x k)) 0

-- a row from the left
unfoldable pub due_in_row : (w : ℕ) (slices : List ℕ) (above : ℕ → ℕ) (y x : ℕ) → ℕ
due_in_row w slices above y zero = 1 + latest_above w slices above 0 y
due_in_row w slices above y (suc x) = 1 + max (due_in_row w slices above y x) (latest_above w slices above (suc x) y)

-- the rows from the top down
unfoldable pub due : (w : ℕ) (slices : List ℕ) (x y : ℕ) → ℕ
due w slices x zero = due_in_row w slices (λ i. 0) 0 x
due w slices x (suc y) = due_in_row w slices (λ i. due w slices i y) (suc y) x

-- when the neighbour on a side is due, and 0 where it is not available
abbrev pub due_on : (w : ℕ) (slices : List ℕ) (x y : ℕ) → Side → ℕ
due_on w slices x y k = cond (available w slices x y k) (due w slices (beside_x x k) (beside_y y k)) 0

-- when the one before it in its row is due, whatever its slice, and 0 in the first column
abbrev pub due_before : (w : ℕ) (slices : List ℕ) (x y : ℕ) → ℕ
due_before w slices x y = cond (ltb 0 x) (due w slices (x - 1) y) 0

-- the largest of f 0, f 1, .., f (n - 1), and 0 where n is 0
unfoldable pub latest : ℕ → (ℕ → ℕ) → ℕ
latest zero f = 0
latest (suc n) f = max (latest n f) (f n)
