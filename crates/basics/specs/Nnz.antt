-- Numbers of coefficients: the context n_c of clause 9.2.1, and their order in a macroblock.
use Rattle.std.specs.Prelude.{List, ℕ, Option, Some, None, ◌+◌, ◌*◌, ◌/◌, ◌%◌, get_or}
use Rattle.laws.specs.Table.{table}

-- 9.2.1: from nA of the block to the left and nB of the block above, the rounded-up mean, the one that is there, or 0
abbrev pub n_c : Option ℕ → Option ℕ → ℕ
n_c (Some nA) (Some nB) = (nA + nB + 1) / 2
n_c (Some nA) None = nA
n_c None (Some nB) = nB
n_c None None = 0

-- 6.4.3: the number in scan order of the 4x4 block in column x and row y of blocks. Below luma's four rows, rows 4 and 5 hold Cb in columns 0 and 1
-- and Cr in columns 2 and 3
abbrev pub blk_idx : ℕ → ℕ → ℕ
blk_idx x y = x % 2 + y % 2 * 2 + x / 2 * 4 + y / 2 * 8

-- 24 numbers in scan order, put in raster order
unfoldable pub in_raster : List ℕ → List ℕ
in_raster n = table 24 (λ k. get_or n (blk_idx (k % 4) (k / 4)) 0)
