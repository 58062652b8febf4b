-- A block of side 8 that is put column by column.
use Rattle.std.specs.Prelude.{◌≡◌, List, ℕ, ◌+◌, ◌*◌, ◌/◌, ◌%◌, ◌<◌, ◌≤◌, ℤ, length}
use Rattle.laws.specs.Range.{at}
use Rattle.residual.specs.Inverse.{rounded}
use Rattle.transform_8x8.specs.Inverse8x8.{g_row, one_dimensional}

-- place k of the transformed rows of d, in raster order
abbrev pub row_at : List ℤ → ℕ → ℤ
row_at d k = at (g_row d (k / 8)) (k % 8)

-- place k of the columns of 64 numbers g, transformed and rounded
abbrev pub column_at : List ℤ → ℕ → ℤ
column_at g k = rounded (at (one_dimensional (λ i. at g (8 * i + k % 8))) (k / 8))

-- the first n places of the block, column by column, are f's; what the list held past the block is as it was
pub record ByColumn (f : ℕ → ℤ) (old : List ℤ) (n : ℕ) (l : List ℤ) : Type 0 where
  pub long : length l ≡ length old
  pub put : (i j : ℕ) → i < 8 → j < 8 → 8 * j + i < n → at l (8 * i + j) ≡ f (8 * i + j)
  pub kept : (k : ℕ) → 64 ≤ k → at l k ≡ at old k
