-- Where an 8x8 block is in range, sixteen bits hold every value that 8.5.13.2 names, and m with the 32 that rounding adds; a residual lies within 512.
use Rattle.std.specs.Prelude.{List, ℕ, ◌<◌, ℤ, pos, ◌+ℤ◌}
use Rattle.std.specs.Int.{w16}
use Rattle.std.proofs.Common.{SFits}
use Rattle.laws.specs.Range.{AllWithin, at}
use Rattle.transform_8x8.specs.Inverse8x8.{e_row, f_row, g_row, h_column, k_column, m_column, inverse8x8}

pub record Fits8x8 (d : List ℤ) : Type 0 where
  pub coefficients : (k : ℕ) → k < 64 → SFits w16 (at d k)
  pub e : (i j : ℕ) → i < 8 → j < 8 → SFits w16 (at (e_row d i) j)
  pub f : (i j : ℕ) → i < 8 → j < 8 → SFits w16 (at (f_row d i) j)
  pub g : (i j : ℕ) → i < 8 → j < 8 → SFits w16 (at (g_row d i) j)
  pub h : (i j : ℕ) → i < 8 → j < 8 → SFits w16 (at (h_column d j) i)
  pub k : (i j : ℕ) → i < 8 → j < 8 → SFits w16 (at (k_column d j) i)
  pub m : (i j : ℕ) → i < 8 → j < 8 → SFits w16 (at (m_column d j) i)
  pub m_32 : (i j : ℕ) → i < 8 → j < 8 → SFits w16 (at (m_column d j) i +ℤ pos 32)
  pub r : AllWithin 512 (inverse8x8 d)
