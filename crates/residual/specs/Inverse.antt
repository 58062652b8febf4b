-- The transformation of residual 4x4 blocks, clause 8.5.12.2: rows, then columns, then rounding. `shr_z z (2 ^ n)` is z >> n, which rounds down.
use Rattle.std.specs.Prelude.{Bool, ◌&&◌, List, [], ◌∷◌, ℕ, ◌+◌, ◌*◌, eqb, ℤ, pos, ◌+ℤ◌, ◌-ℤ◌, length}
use Rattle.std.specs.Int.Signed.{shr_z}
use Rattle.laws.specs.Answer.{◌unless◌, answer}
use Rattle.laws.specs.Range.{at}
use Rattle.laws.specs.Table.{all_below, block_of}
use Rattle.numbers.specs.Numbers.{in_range, last_in_range}

-- ---- the one-dimensional transformation of four numbers, of a row and of a column
-- e from d in a row, g from f in a column
unfoldable pub first_step : (ℕ → ℤ) → List ℤ
first_step d = (d 0 +ℤ d 2) ∷ (d 0 -ℤ d 2) ∷ (shr_z (d 1) 2 -ℤ d 3) ∷ (d 1 +ℤ shr_z (d 3) 2) ∷ []

-- f from e in a row, h from g in a column
unfoldable pub second_step : (ℕ → ℤ) → List ℤ
second_step e = (e 0 +ℤ e 3) ∷ (e 1 +ℤ e 2) ∷ (e 1 -ℤ e 2) ∷ (e 0 -ℤ e 3) ∷ []

abbrev pub one_dimensional : (ℕ → ℤ) → List ℤ
one_dimensional d = second_step (at (first_step d))

-- ( h + 32 ) >> 6
unfoldable pub rounded : ℤ → ℤ
rounded h = shr_z (h +ℤ pos 32) 64

-- ---- the values that the clause names, for sixteen coefficients d in raster order
module _ (d : List ℤ) where
  -- row i: e[ i ][ 0 ], .., e[ i ][ 3 ], and f in the same way
  unfoldable pub e_row : ℕ → List ℤ
  e_row i = first_step (λ j. at d (4 * i + j))

  unfoldable pub f_row : ℕ → List ℤ
  f_row i = second_step (at (e_row i))

  -- column j of f: g[ 0 ][ j ], .., g[ 3 ][ j ], and h in the same way
  unfoldable pub g_column : ℕ → List ℤ
  g_column j = first_step (λ i. at (f_row i) j)

  unfoldable pub h_column : ℕ → List ℤ
  h_column j = second_step (at (g_column j))

  -- the sixteen residuals r[ i ][ j ] = ( h[ i ][ j ] + 32 ) >> 6, row by row
  unfoldable pub inverse4x4 : List ℤ
  inverse4x4 = block_of 4 (λ j i. rounded (at (h_column j) i))

  -- what the clause demands of each of them for 8-bit samples: d, e, f and g lie in -32768..32767, and h in -32768..32735
  unfoldable pub in_range4x4 : Bool
  in_range4x4 =
      all_below 16 (λ k. in_range (at d k))
      && all_below 4 (λ i. all_below 4 (λ j. in_range (at (e_row i) j) && in_range (at (f_row i) j)))
      && all_below 4 (λ j. all_below 4 (λ i. in_range (at (g_column j) i) && last_in_range (at (h_column j) i)))

-- ---- what the calls answer
-- one that puts the residuals of a block of n coefficients into a list, by whether the block is in range: 2 for another length, 8 for a block out of range
abbrev pub inverse_answer : ℕ → (List ℤ → Bool) → List ℤ → ℕ → ℕ
inverse_answer n good d places = answer (2 unless eqb (length d) n ∷ 2 unless eqb places n ∷ 8 unless good d ∷ [])
