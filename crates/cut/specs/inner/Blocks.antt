-- The blocks of a square, by number and by place.
use Rattle.std.specs.Prelude.{◌≡◌, ℕ, ◌*◌, ◌<◌, ◌≤◌}
use Rattle.basics.specs.Nnz.{blk_idx}
use Rattle.cut.specs.Cut.{scan_x, scan_y}

-- for m blocks across, places and numbers answer one another
pub record Scan (m : ℕ) : Type 0 where
  pub some : 0 < m
  pub x_lt : (k : ℕ) → k < m * m → scan_x k < m
  pub y_lt : (k : ℕ) → k < m * m → scan_y k < m
  pub of : (k : ℕ) → k < m * m → blk_idx (scan_x k) (scan_y k) ≡ k
  pub of_x : (x y : ℕ) → x < m → y < m → scan_x (blk_idx x y) ≡ x
  pub of_y : (x y : ℕ) → x < m → y < m → scan_y (blk_idx x y) ≡ y
  pub of_lt : (x y : ℕ) → x < m → y < m → blk_idx x y < m * m

-- block k of m across
pub record BlockOf (m k : ℕ) : Type 0 where
  pub scan : Scan m
  pub few : m ≤ 4
  pub one : k < m * m
