-- Where a 4x4 block is in range, sixteen bits hold every value that 8.5.12.2 names, and h with the 32 that rounding adds; a residual lies within 512.
use Rattle.std.specs.Prelude.{List, ℕ, ◌<◌, ℤ, pos, ◌+ℤ◌}
use Rattle.std.specs.Int.{w16}
use Rattle.std.proofs.Common.{SFits}
use Rattle.laws.specs.Range.{AllWithin, at}
use Rattle.residual.specs.Inverse.{e_row, f_row, g_column, h_column, inverse4x4}

pub record Fits4x4 (d : List ℤ) : Type 0 where
  pub coefficients : (k : ℕ) → k < 16 → SFits w16 (at d k)
  pub e : (i j : ℕ) → i < 4 → j < 4 → SFits w16 (at (e_row d i) j)
  pub f : (i j : ℕ) → i < 4 → j < 4 → SFits w16 (at (f_row d i) j)
  pub g : (i j : ℕ) → i < 4 → j < 4 → SFits w16 (at (g_column d j) i)
  pub h : (i j : ℕ) → i < 4 → j < 4 → SFits w16 (at (h_column d j) i)
  pub h_32 : (i j : ℕ) → i < 4 → j < 4 → SFits w16 (at (h_column d j) i +ℤ pos 32)
  pub r : AllWithin 512 (inverse4x4 d)
