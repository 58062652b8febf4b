-- The promise of a macroblock to the picture that it is part of.
use Rattle.std.specs.Prelude.{◌≡◌, Bool, List, ℕ, T, get_or, length}
use Rattle.maps.specs.Neighbours.{Side, beside_x, beside_y}
use Rattle.macroblock.specs.declared.Record.{Record}
use Rattle.macroblock.specs.declared.Strides.{Strides}
use Rattle.macroblock.specs.Square.{in_block}
use Rattle.macroblock.specs.Kinds.{luma_square, cb_square, cr_square}

-- a step in planes of n samples with stride s: it keeps the length, it changes the square of side q at (x, y) only, and what it leaves there depends on
-- the squares of the marked neighbours only: neither on what the square itself held before, nor on any other sample
pub record Local (n q s x y : ℕ) (marks : Side → Bool) (step : List ℕ → List ℕ) : Type 0 where
  pub keeps : (p : List ℕ) → length (step p) ≡ length p
  pub writes : (p : List ℕ) (i : ℕ) → length p ≡ n → ¬ T (in_block q s y x i) → get_or (step p) i 0 ≡ get_or p i 0
  pub reads : (p p' : List ℕ) → length p ≡ n → length p' ≡ n
      → ((d : Side) → T (marks d) → (i : ℕ) → T (in_block q s (beside_y y d) (beside_x x d) i) → get_or p i 0 ≡ get_or p' i 0)
      → (i : ℕ) → T (in_block q s y x i) → get_or (step p) i 0 ≡ get_or (step p') i 0

-- the promise: in each plane
pub record Promise (x y luma_len cb_len cr_len : ℕ) (s : Strides) (marks : Side → Bool) (r : Record) : Type 0 where
  pub luma : Local luma_len 16 s.luma x y marks (luma_square x y marks r s.luma)
  pub cb : Local cb_len 8 s.cb x y marks (cb_square x y marks r s.cb)
  pub cr : Local cr_len 8 s.cr x y marks (cr_square x y marks r s.cr)
