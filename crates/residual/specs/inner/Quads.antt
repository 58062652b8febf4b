-- The first 64 numbers of a list as four 4x4 blocks.
use Rattle.std.specs.Prelude.{◌≡◌, Bool, List, ℕ, ◌+◌, ◌*◌, ◌<◌, ℤ, pos}
use Rattle.laws.specs.Range.{at}
use Rattle.laws.specs.Table.{table, blockwise, all_blocks}
use Rattle.residual.specs.Inverse.{inverse4x4, in_range4x4}

-- their residuals, and whether all four are in range
unfoldable pub quad_inverse : List ℤ → List ℤ
quad_inverse d = blockwise 16 inverse4x4 (table 64 (at d))

unfoldable pub quad_in_range : List ℤ → Bool
quad_in_range d = all_blocks 16 in_range4x4 (table 64 (at d))

-- of each n of them no number but the first is other than 0
pub record OnlyFirsts (n : ℕ) (d : List ℤ) : Type 0 where
  pub rest : (b i : ℕ) → n * b + n < 65 → 0 < i → i < n → at d (n * b + i) ≡ pos 0
