-- How large the values of 8.5.13.2 get for coefficients in -32768..32767: 32 bits hold every value, and 16 bits hold a residual. No bound can be lowered:
-- the block of 64 times -32768 reaches each of them (figures/specs/Figures).
use Rattle.std.specs.Prelude.{List, ℤ, ℕ}
use Rattle.laws.specs.Range.{AllWithin}
use Rattle.transform_8x8.specs.Inverse8x8.{e_row, f_row, g_row, h_column, k_column, m_column, inverse8x8}

pub record Bounds (d : List ℤ) : Type 0 where
  pub in_range_lem : AllWithin 32768 d
  -- rows: 7/2, 31/8 and 59/8 times as large as d
  pub e : (i : ℕ) → AllWithin 114688 (e_row d i)
  pub f : (i : ℕ) → AllWithin 126976 (f_row d i)
  pub g : (i : ℕ) → AllWithin 241664 (g_row d i)
  -- columns: 7/2, 31/8 and 59/8 times as large as g, and a residual is a 64th of m
  pub h : (j : ℕ) → AllWithin 845824 (h_column d j)
  pub k : (j : ℕ) → AllWithin 936448 (k_column d j)
  pub m : (j : ℕ) → AllWithin 1782272 (m_column d j)
  pub r : AllWithin 27848 (inverse8x8 d)
