-- A lone coefficient at place 0 passes both passes unchanged: row 0 is the coefficient eight times, and every other row is zeros. Assumes nothing.
use mathlib.Core.Path.{◌≡◌, refl, sym, ap, ◌∙◌}
use mathlib.Core.Bool.{true}
use mathlib.Core.List.{[], ◌∷◌}
use Prim.Native.Nat.{ℕ, zero, suc, ◌*◌, ◌/◌, ◌%◌, ◌<◌, ◌+◌}
use native.Mathlib.Omega.{arith}
use lib.Dec.{lit<}
use lib.IntN.{ℤ, pos, +ℤ_idr}
use lib.ListN.{replicate, get_or-replicate}
use Rattle.laws.specs.Range.{at}
use Rattle.laws.specs.Table.{all_below}
use Rattle.laws.proofs.Tables.{table_same, table_const}
use Rattle.laws.proofs.Tests.{true_t, T_true, same_test, and_of, all_of_lem}
use Rattle.numbers.specs.Numbers.{in_range, all_in_range, all_of, last_in_range}
use Rattle.numbers.proofs.InRange.{last_in_range_lem}
use Rattle.residual.specs.Inverse.{rounded}
use Rattle.transform_8x8.specs.Flat.{Flat, lone}
use Rattle.transform_8x8.specs.Inverse8x8.{first_step, second_step, third_step, one_dimensional, e_row, f_row, g_row, h_column, k_column, m_column, inverse8x8, in_range8x8}
use Rattle.transform_8x8.specs.inner.Told.{odd_of, row_told}
use Rattle.transform_8x8.proofs.Eights.{eight_same, first_same}
use Rattle.transform_8x8.proofs.Halfway.{column_tested, all_told, says, said}

-- the number v first, and zeros after it
abbrev first : ℤ → ℕ → ℤ
first v n = at (v ∷ []) n

-- it passes the three steps
passes : (v : ℤ) → one_dimensional (first v) ≡ replicate 8 v
unfolding first_step second_step third_step
passes v = ap (replicate 8) (+ℤ_idr _ ∙ +ℤ_idr _ ∙ +ℤ_idr v)

-- zeros, also past their end, and what stands past the first number of the block
zeros : (k n : ℕ) → at (replicate k (pos 0)) n ≡ pos 0
zeros zero n = refl
zeros (suc k) zero = refl
zeros (suc k) (suc n) = zeros k n

beyond : (v : ℤ) (n : ℕ) → 0 < n → at (lone v) n ≡ pos 0
beyond v zero h = absurd (omega arith)
beyond v (suc n) h = zeros 63 n

-- eight numbers that are v first and then zeros
lone_passes : (v : ℤ) (f : ℕ → ℤ) → f 0 ≡ v → ((n : ℕ) → 0 < n → n < 8 → f n ≡ pos 0) → one_dimensional f ≡ replicate 8 v
lone_passes v f a b = eight_same f (first v) same ∙ passes v
  where
    same : (n : ℕ) → n < 8 → f n ≡ first v n
    same zero h = a
    same (suc n) h = b (suc n) (omega arith) h

-- the odd values of their first step are zeros
lone_odd : (v : ℤ) (f : ℕ → ℤ) → f 0 ≡ v → ((n : ℕ) → 0 < n → n < 8 → f n ≡ pos 0) → all_of in_range (odd_of (first_step f)) ≡ true
unfolding first_step all_below in_range
lone_odd v f a b = ap (λ e. all_of in_range (odd_of e)) (first_same f (first v) same)
  where
    same : (n : ℕ) → n < 8 → f n ≡ first v n
    same zero h = a
    same (suc n) h = b (suc n) (omega arith) h

module _ (v : ℤ) where
  row_first : g_row (lone v) 0 ≡ replicate 8 v
  unfolding e_row f_row g_row
  row_first = lone_passes v (λ j. at (lone v) (8 * 0 + j)) refl (λ j h _. beyond v (8 * 0 + j) (omega arith))

  row_rest : (i : ℕ) → 0 < i → g_row (lone v) i ≡ replicate 8 (pos 0)
  unfolding e_row f_row g_row
  row_rest i h = lone_passes (pos 0) (λ j. at (lone v) (8 * i + j)) (beyond v (8 * i + 0) (omega arith)) (λ j _ _. beyond v (8 * i + j) (omega arith))

  column : (j : ℕ) → j < 8 → m_column (lone v) j ≡ replicate 8 v
  unfolding h_column k_column m_column
  column j h =
      lone_passes v (λ i. at (g_row (lone v) i) j) (ap (λ l. at l j) row_first ∙ get_or-replicate 8 j v (pos 0) h)
      (λ i hi _. ap (λ l. at l j) (row_rest i hi) ∙ zeros 8 j)

  all : inverse8x8 (lone v) ≡ replicate 64 (rounded v)
  unfolding inverse8x8
  all =
      table_same 64 (λ k. rounded (at (m_column (lone v) (k % 8)) (k / 8))) (λ _. rounded v)
      (λ k h. ap rounded (ap (λ l. at l (k / 8)) (column (k % 8) (omega arith)) ∙ get_or-replicate 8 (k / 8) v (pos 0) (omega arith)))
      ∙ table_const 64 (rounded v)

  -- ---- in range: what is tested is v or 0
  module _ (e : last_in_range v ≡ true) where
    numbers : all_in_range (lone v) ≡ true
    unfolding in_range all_in_range
    numbers = and_of (last_in_range_lem v e) refl

    rows : (i : ℕ) → i < 8 → row_told (lone v) i ≡ true
    unfolding e_row
    rows zero h = lone_odd v (λ j. at (lone v) (8 * 0 + j)) refl (λ j l _. beyond v (8 * 0 + j) (omega arith))
    rows (suc i) h =
        lone_odd (pos 0) (λ j. at (lone v) (8 * suc i + j)) (beyond v (8 * suc i + 0) (omega arith)) (λ j _ _. beyond v (8 * suc i + j) (omega arith))

    in_row : (i j : ℕ) → j < 8 → in_range (at (g_row (lone v) i) j) ≡ true
    unfolding in_range
    in_row zero j h = ap (λ l. in_range (at l j)) row_first ∙ ap in_range (get_or-replicate 8 j v (pos 0) h) ∙ last_in_range_lem v e
    in_row (suc i) j h = ap (λ l. in_range (at l j)) (row_rest (suc i) (omega arith)) ∙ ap in_range (zeros 8 j)

    columns : (j : ℕ) → j < 8 → column_tested (lone v) j ≡ true
    unfolding h_column
    columns j h =
        and_of (and_of (all_of_lem 8 _ (λ i _. in_row i j h))
        (lone_odd v (λ i. at (g_row (lone v) i) j) (ap (λ l. at l j) row_first ∙ get_or-replicate 8 j v (pos 0) h) (λ i hi _. ap (λ l. at l j) (row_rest i hi) ∙ zeros 8 j)))
        (all_of_lem 8 _ (λ i hi. ap (λ l. last_in_range (at l i)) (column j h) ∙ ap last_in_range (get_or-replicate 8 i v (pos 0) hi) ∙ e))

  range : in_range8x8 (lone v) ≡ last_in_range v
  range =
      same_test (in_range8x8 (lone v)) (last_in_range v)
      (λ t. true_t _ (sym (ap (λ l. last_in_range (at l 0)) (column 0 (lit< tt))) ∙ (says (lone v) (T_true _ t)).m_in_lem 0 (lit< tt) 0 (lit< tt)))
      (λ t.
      let e = T_true (last_in_range v) t in
      true_t _ (said (lone v) (all_told (lone v) (numbers e) (all_of_lem 8 _ (rows e)) (all_of_lem 8 _ (columns e)))))

pub flat : Flat
flat = record { flat = all; lone_range = range }
