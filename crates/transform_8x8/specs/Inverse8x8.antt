-- The transformation of residual 8x8 blocks, clause 8.5.13.2: rows, then columns, then rounding. `shr_z z (2 ^ n)` is z >> n, which rounds down.
use Rattle.std.specs.Prelude.{Bool, ◌&&◌, List, [], ◌∷◌, ℕ, ◌+◌, ◌*◌, ℤ, neg_ℤ, ◌+ℤ◌, ◌-ℤ◌}
use Rattle.std.specs.Int.Signed.{shr_z}
use Rattle.laws.specs.Range.{at}
use Rattle.laws.specs.Table.{all_below, block_of}
use Rattle.numbers.specs.Numbers.{in_range, last_in_range}
use Rattle.residual.specs.Inverse.{rounded}

-- ---- the one-dimensional transformation of eight numbers, of a row and of a column
-- e from d in a row, h from g in a column
unfoldable pub first_step : (ℕ → ℤ) → List ℤ
first_step d =
    (d 0 +ℤ d 4)
    ∷ (neg_ℤ (d 3) +ℤ d 5 -ℤ d 7 -ℤ shr_z (d 7) 2)
    ∷ (d 0 -ℤ d 4)
    ∷ (d 1 +ℤ d 7 -ℤ d 3 -ℤ shr_z (d 3) 2)
    ∷ (shr_z (d 2) 2 -ℤ d 6)
    ∷ (neg_ℤ (d 1) +ℤ d 7 +ℤ d 5 +ℤ shr_z (d 5) 2)
    ∷ (d 2 +ℤ shr_z (d 6) 2)
    ∷ (d 3 +ℤ d 5 +ℤ d 1 +ℤ shr_z (d 1) 2)
    ∷ []

-- f from e in a row, k from h in a column
unfoldable pub second_step : (ℕ → ℤ) → List ℤ
second_step e =
    (e 0 +ℤ e 6)
    ∷ (e 1 +ℤ shr_z (e 7) 4)
    ∷ (e 2 +ℤ e 4)
    ∷ (e 3 +ℤ shr_z (e 5) 4)
    ∷ (e 2 -ℤ e 4)
    ∷ (shr_z (e 3) 4 -ℤ e 5)
    ∷ (e 0 -ℤ e 6)
    ∷ (e 7 -ℤ shr_z (e 1) 4)
    ∷ []

-- g from f in a row, m from k in a column
unfoldable pub third_step : (ℕ → ℤ) → List ℤ
third_step f =
    (f 0 +ℤ f 7)
    ∷ (f 2 +ℤ f 5)
    ∷ (f 4 +ℤ f 3)
    ∷ (f 6 +ℤ f 1)
    ∷ (f 6 -ℤ f 1)
    ∷ (f 4 -ℤ f 3)
    ∷ (f 2 -ℤ f 5)
    ∷ (f 0 -ℤ f 7)
    ∷ []

abbrev pub one_dimensional : (ℕ → ℤ) → List ℤ
one_dimensional d = third_step (at (second_step (at (first_step d))))

-- ---- the values that the clause names, for 64 coefficients d in raster order
module _ (d : List ℤ) where
  -- row i: e[ i ][ 0 ], .., e[ i ][ 7 ], and f and g in the same way
  unfoldable pub e_row : ℕ → List ℤ
  e_row i = first_step (λ j. at d (8 * i + j))

  unfoldable pub f_row : ℕ → List ℤ
  f_row i = second_step (at (e_row i))

  unfoldable pub g_row : ℕ → List ℤ
  g_row i = third_step (at (f_row i))

  -- column j of g: h[ 0 ][ j ], .., h[ 7 ][ j ], and k and m in the same way
  unfoldable pub h_column : ℕ → List ℤ
  h_column j = first_step (λ i. at (g_row i) j)

  unfoldable pub k_column : ℕ → List ℤ
  k_column j = second_step (at (h_column j))

  unfoldable pub m_column : ℕ → List ℤ
  m_column j = third_step (at (k_column j))

  -- the 64 residuals r[ i ][ j ] = ( m[ i ][ j ] + 32 ) >> 6, row by row
  unfoldable pub inverse8x8 : List ℤ
  inverse8x8 = block_of 8 (λ j i. rounded (at (m_column j) i))

  -- what the clause demands of each of them for 8-bit samples: d, e, f, g, h and k lie in -32768..32767, and m in -32768..32735
  unfoldable pub in_range8x8 : Bool
  in_range8x8 =
      all_below 64 (λ k. in_range (at d k))
      && all_below 8 (λ i. all_below 8 (λ j. in_range (at (e_row i) j) && in_range (at (f_row i) j) && in_range (at (g_row i) j)))
      && all_below 8 (λ j. all_below 8 (λ i. in_range (at (h_column j) i) && in_range (at (k_column j) i) && last_in_range (at (m_column j) i)))
