-- What private functions tell of how late macroblocks are. Where nothing is waited for but the row, column x is due in turn x + 1: late is what comes on top.
use Rattle.std.specs.Prelude.{◌≡◌, cond, List, ℕ, ◌+◌, ◌-◌, ◌<◌, max, get_or, length}
use Rattle.maps.specs.Neighbours.{Side, beside_x, beside_y, available}
use Rattle.maps.specs.Neighbours.Side.{A, B, C, D}
use Rattle.turn_count.specs.Due.{due, latest}

abbrev pub late : (w : ℕ) (slices : List ℕ) (x y : ℕ) → ℕ
late w slices x y = due w slices x y - (x + 1)

-- how much later than a neighbour a macroblock is
abbrev pub more : Side → ℕ
more A = 0
more B = 1
more C = 2
more D = 0

-- how late the neighbour on a side makes it, and all those above
abbrev pub late_on : (w : ℕ) (slices : List ℕ) (x y : ℕ) → Side → ℕ
late_on w slices x y k = cond (available w slices x y k) (late w slices (beside_x x k) (beside_y y k) + more k) 0

abbrev pub late_above : (w : ℕ) (slices : List ℕ) (x y : ℕ) → ℕ
late_above w slices x y = max (late_on w slices x y B) (max (late_on w slices x y C) (late_on w slices x y D))

-- how late the macroblocks of row y are, and how late those above make them: of all, or of the first and the last alone
pub record LateRow (w : ℕ) (slices : List ℕ) (y : ℕ) (row : List ℕ) : Type 0 where
  pub long : length row ≡ 120
  pub is : (i : ℕ) → i < w → get_or row i 0 ≡ late w slices i y

pub record AboveRow (w : ℕ) (slices : List ℕ) (y : ℕ) (above : List ℕ) : Type 0 where
  pub long : length above ≡ 120
  pub is : (i : ℕ) → i < w → get_or above i 0 ≡ late_above w slices i y

pub record Edges (w : ℕ) (slices : List ℕ) (y : ℕ) (above : List ℕ) : Type 0 where
  pub long : length above ≡ 120
  pub first : get_or above 0 0 ≡ late_above w slices 0 y
  pub last : get_or above (w - 1) 0 ≡ late_above w slices (w - 1) y

-- each place of a row holds the largest number that stood there or before
pub record RunOn (old new : List ℕ) : Type 0 where
  pub long : length new ≡ length old
  pub is : (i : ℕ) → i < length old → get_or new i 0 ≡ latest (i + 1) (λ j. get_or old j 0)
