-- The two passes over 4x4 blocks that stand one after the other in a list.
use Rattle.std.specs.Prelude.{List, ℕ, ◌+◌, ◌*◌, ◌/◌, ◌%◌, ℤ}
use Rattle.laws.specs.Range.{at}
use Rattle.laws.specs.Table.{table}
use Rattle.residual.specs.Inverse.{one_dimensional, f_row}

-- place k of the transformed rows of d, in raster order
abbrev pub row_at : List ℤ → ℕ → ℤ
row_at d k = at (f_row d (k / 4)) (k % 4)

-- the transformed columns of the first sixteen numbers of f, in raster order
unfoldable pub columns_of : List ℤ → List ℤ
columns_of f = table 16 (λ k. at (one_dimensional (λ i. at f (4 * i + k % 4))) (k / 4))
