-- Blocks in their macroblock and in their plane.
use Rattle.std.specs.Prelude.{◌≡◌, Bool, true, List, ℕ, zero, suc, ◌+◌, ◌*◌, ◌-◌, ◌/◌, ◌%◌, ◌<◌, ◌≤◌, ltb, ℤ, pos, ◌+ℤ◌, get_or, length}
use Rattle.laws.specs.Patch.{patch}
use Rattle.laws.specs.Range.{at}
use Rattle.basics.specs.Clip.{Clip1}
use Rattle.basics.specs.Marks.{permitted_chroma, mode_answer}
use Rattle.basics.specs.Nnz.{blk_idx}
use Rattle.maps.specs.Neighbours.{Side, marks_of}
use Rattle.cut.specs.Cut.{cut_for, used, sides_of, square_sides}
use Rattle.maps.specs.Neighbours.Side.{A, B, D}
use Rattle.macroblock.specs.declared.place.Place.{Place}
use Rattle.basics.specs.declared.marks.Sides.{Sides}
use Rattle.macroblock.specs.declared.place.Spot.{Spot}
use Rattle.macroblock.specs.Kinds.{residual4x4, residual8x8}
use Rattle.macroblock.specs.Rules.{last_mode, permitted_for}
use Rattle.macroblock.specs.Square.{place_at}

-- a place so near that sixteen times its row and its column are numbers of 64 bits
pub record Low (p : Place) : Type 0 where
  pub rows : p.row * 16 + 16 ≤ 18446744073709551616
  pub columns : p.column * 16 + 16 ≤ 18446744073709551616

-- the block at p lies in a plane of n samples
pub record BlockIn (side : ℕ) (p : Place) (n : ℕ) : Type 0 where
  pub some : 0 < side
  pub short : p.stride ≤ 4096
  pub wide : p.column * side + side ≤ p.stride
  pub within : (p.row * side + (side - 1)) * p.stride + (p.column * side + side) ≤ n

-- a side of it that is there has a row above it, a column before it, or a block to its right
pub record SidesIn (side : ℕ) (p : Place) (sides : Sides) : Type 0 where
  pub on_above : sides.above ≡ true → 0 < p.row
  pub on_left : sides.left ≡ true → 0 < p.column
  pub on_corner : sides.corner ≡ true → (0 < p.row) × (0 < p.column)
  pub on_above_right : sides.above_right ≡ true → (0 < p.row) × (p.column * side + side + side ≤ p.stride)

pub record StandsIn (side : ℕ) (p : Place) (n : ℕ) (sides : Sides) : Type 0 where
  pub block : BlockIn side p n
  pub beside : SidesIn side p sides

-- luma block k's mode, as a predictor answers it: 0 where it is known and permitted where it stands
abbrev pub mode_fine : ℕ → List ℕ → (Side → Bool) → ℕ → ℕ
mode_fine kind modes marks k = mode_answer (last_mode kind) (permitted_for kind (sides_of (cut_for kind).across marks k)) (get_or modes k 0)

-- a mark for each 64 residuals: where it is 0, so are they
pub record Coded (residuals : List ℤ) (coded : List ℕ) : Type 0 where
  pub six : length coded ≡ 6
  pub blank : (q i : ℕ) → q < 6 → i < 64 → get_or coded q 0 ≡ 0 → at residuals (64 * q + i) ≡ pos 0

-- where a macroblock's luma square stands
abbrev pub luma_place : Spot → Place
luma_place spot = place_at spot.strides.luma spot.y spot.x

-- it lies in its plane, its modes are fine, and there are sixteen of them
pub record LumaReady (kind : ℕ) (spot : Spot) (n : ℕ) (modes : List ℕ) : Type 0 where
  pub stands : StandsIn 16 (luma_place spot) n (square_sides (marks_of spot.marks))
  pub fine : (k : ℕ) → k < used kind → mode_fine kind modes (marks_of spot.marks) k ≡ 0
  pub sixteen : length modes ≡ 16

-- a chroma square lies in its plane, and its mode is fine
pub record ChromaReady (mode stride : ℕ) (spot : Spot) (n : ℕ) : Type 0 where
  pub stands : StandsIn 8 (place_at stride spot.y spot.x) n (square_sides (marks_of spot.marks))
  pub fine : let marks = marks_of spot.marks in mode_answer 3 (permitted_chroma (marks B) (marks A) (marks D)) mode ≡ 0

-- the rows of a square of that side, `apart` apart from `off` on, lie in a list of n samples
pub record RoomIn (side off apart n : ℕ) : Type 0 where
  pub inside : off + (side - 1) * apart + side ≤ n

-- ---- sums of a prediction and a residual
-- the sample in column x and row y of a square whose prediction stands from `off` on, with rows `apart` apart
abbrev pub sum_over : List ℕ → ℕ → ℕ → (ℕ → ℕ → ℤ) → ℕ → ℕ → ℕ
sum_over pred off apart residual x y = Clip1 (pos (get_or pred (off + y * apart + x) 0) +ℤ residual x y)

-- a row with its first n samples put anew
abbrev pub added : ℕ → List ℕ → (ℕ → ℤ) → List ℕ → List ℕ
added n pred residual row = patch (λ i. ltb i n) (λ i. Clip1 (pos (get_or pred i 0) +ℤ residual i)) row

-- ---- residuals where a macroblock's numbers stood
-- those of the 4x4 coefficient blocks from `first` on, and those of the 8x8 coefficient blocks before them
pub record Transformed (first : ℕ) (numbers residuals : List ℤ) : Type 0 where
  pub before : (k x y : ℕ) → 4 * k + 4 ≤ first → x < 8 → y < 8 → at residuals (64 * k + (8 * y + x)) ≡ residual8x8 numbers k x y
  pub after : (b x y : ℕ) → first ≤ b → b < 24 → x < 4 → y < 4 → at residuals (16 * b + (4 * y + x)) ≡ residual4x4 numbers b x y

-- the first 4x4 coefficient block, by kind: the luma of kind 1 is coded in 8x8 blocks
abbrev pub first_for : ℕ → ℕ
first_for zero = 0
first_for (suc zero) = 16
first_for (suc (suc _)) = 0

-- the residual of block b in column x and row y, and that of a larger block whose pieces are the blocks from b on
abbrev pub in_piece : List ℤ → ℕ → ℕ → ℕ → ℤ
in_piece residuals b x y = at residuals (16 * b + (4 * y + x))

abbrev pub in_pieces : List ℤ → ℕ → ℕ → ℕ → ℤ
in_pieces residuals b x y = in_piece residuals (b + blk_idx (x / 4) (y / 4)) (x % 4) (y % 4)

-- where the residual of sample (x, y) of a square stands among those of its four pieces
unfoldable pub quad_place : ℕ → ℕ → ℕ
quad_place x y = 16 * (y / 4 * 2 + x / 4) + (4 * (y % 4) + x % 4)
