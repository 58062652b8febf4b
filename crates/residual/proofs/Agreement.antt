-- The forms of picture construction agree: a lone coefficient passes both passes of the transform unchanged, and place k of a block is in column k % 4
-- and row k / 4 of its square. Assumes nothing.
use mathlib.Core.Path.{◌≡◌, refl, sym, ap, ap₂, ◌∙◌}
use mathlib.Core.Bool.{true}
use mathlib.Core.List.{List, [], ◌∷◌}
use Prim.Native.Nat.{ℕ, zero, suc, ◌+◌, ◌*◌, ◌/◌, ◌%◌, ◌<◌}
use native.Mathlib.Omega.{arith}
use lib.Dec.{lit<}
use lib.IntN.{ℤ, pos, ◌+ℤ◌, +ℤ_idr}
use lib.ListN.{length, get_or, replicate, get_or-replicate}
use Rattle.laws.specs.Range.{at}
use Rattle.laws.specs.Table.{block_of}
use Rattle.laws.proofs.Ints.{within_more}
use Rattle.laws.proofs.Tables.{get_d_table, length_table, table_same, table_const}
use Rattle.laws.proofs.Tests.{true_t, T_true, same_test, and_of}
use Rattle.basics.specs.Clip.{Clip1}
use Rattle.numbers.specs.Numbers.{in_range, all_in_range, last_in_range}
use Rattle.numbers.proofs.InRange.{in_range_within, within_in_range, last_in_range_lem, all_true}
use Rattle.residual.specs.Agreement.{Agreement, lone, into, square}
use Rattle.residual.specs.Inverse.{first_step, second_step, rounded, e_row, f_row, g_column, h_column, inverse4x4, in_range4x4}
use Rattle.residual.specs.Reconstruct.{sums, put_square, sum_in, into_room}
use Rattle.residual.proofs.Halfway.{says, told}
use Rattle.residual.proofs.Transform.{rounded_small}
use Rattle.residual.proofs.Rooms.{room}
use Rattle.residual.proofs.Squares.{square_at_lem}

-- ---- a lone coefficient v: row 0 of e is v, v, 0, 0 and all its later values are v; every other row is zeros
module _ (v : ℤ) where
  e_first : e_row (lone v) 0 ≡ (v ∷ v ∷ pos 0 ∷ pos 0 ∷ [])
  unfolding e_row first_step
  e_first = ap₂ (λ (x y : ℤ). x ∷ y ∷ pos 0 ∷ pos 0 ∷ []) (+ℤ_idr v) (+ℤ_idr v)

  f_first : f_row (lone v) 0 ≡ replicate 4 v
  unfolding f_row second_step
  f_first = ap (λ e. second_step (at e)) e_first ∙ ap (replicate 4) (+ℤ_idr v)

  e_rest : (i : ℕ) → 0 < i → i < 4 → e_row (lone v) i ≡ replicate 4 (pos 0)
  unfolding e_row first_step
  e_rest zero h l = absurd (omega arith)
  e_rest (suc zero) h l = refl
  e_rest (suc (suc zero)) h l = refl
  e_rest (suc (suc (suc zero))) h l = refl
  e_rest (suc (suc (suc (suc i)))) h l = absurd (omega arith)

  f_rest : (i : ℕ) → 0 < i → i < 4 → f_row (lone v) i ≡ replicate 4 (pos 0)
  unfolding f_row second_step
  f_rest i h l = ap (λ e. second_step (at e)) (e_rest i h l)

  g_all : (j : ℕ) → j < 4 → g_column (lone v) j ≡ (v ∷ v ∷ pos 0 ∷ pos 0 ∷ [])
  unfolding g_column first_step
  g_all j h =
      let z = get_or-replicate 4 j (pos 0) (pos 0) h in
      rw (f_first, f_rest 1 (lit< tt) (lit< tt), f_rest 2 (lit< tt) (lit< tt), f_rest 3 (lit< tt) (lit< tt), z, get_or-replicate 4 j v (pos 0) h)
      (ap₂ (λ (x y : ℤ). x ∷ y ∷ pos 0 ∷ pos 0 ∷ []) (+ℤ_idr v) (+ℤ_idr v))

  h_all : (j : ℕ) → j < 4 → h_column (lone v) j ≡ replicate 4 v
  unfolding h_column second_step
  h_all j h = ap (λ e. second_step (at e)) (g_all j h) ∙ ap (replicate 4) (+ℤ_idr v)

  flat : inverse4x4 (lone v) ≡ replicate 16 (rounded v)
  unfolding inverse4x4
  flat =
      table_same 16 (λ k. rounded (at (h_column (lone v) (k % 4)) (k / 4))) (λ _. rounded v)
      (λ k h. ap rounded (ap (λ l. at l (k / 4)) (h_all (k % 4) (omega arith)) ∙ get_or-replicate 4 (k / 4) v (pos 0) (omega arith)))
      ∙ table_const 16 (rounded v)

  -- in range: what is tested is v or 0
  passes : last_in_range v ≡ true → in_range4x4 (lone v) ≡ true
  unfolding in_range all_in_range
  passes e =
      let i = last_in_range_lem v e in
      told (lone v) (and_of i refl) (λ i j h l. row i h j l)
      (λ i j l h. ap (λ c. last_in_range (at c i)) (h_all j h) ∙ ap last_in_range (get_or-replicate 4 i v (pos 0) l) ∙ e)
    where
      row : (i : ℕ) → i < 4 → (j : ℕ) → j < 4 → in_range (at (f_row (lone v) i) j) ≡ true
      row zero h j l = ap (λ f. in_range (at f j)) f_first ∙ ap in_range (get_or-replicate 4 j v (pos 0) l) ∙ last_in_range_lem v e
      row (suc i) h j l = ap (λ f. in_range (at f j)) (f_rest (suc i) (omega arith) h) ∙ ap in_range (get_or-replicate 4 j (pos 0) (pos 0) l)

  lone_range : in_range4x4 (lone v) ≡ last_in_range v
  lone_range =
      same_test (in_range4x4 (lone v)) (last_in_range v)
      (λ t. true_t (last_in_range v) (sym (ap (λ c. last_in_range (at c 0)) (h_all 0 (lit< tt))) ∙ (says (lone v) (T_true (in_range4x4 (lone v)) t)).h_in_lem 0 0 (lit< tt) (lit< tt)))
      (λ t. true_t (in_range4x4 (lone v)) (passes (T_true (last_in_range v) t)))

  -- in range, its rounding passes
  rounded_passes : in_range4x4 (lone v) ≡ true → in_range (rounded v) ≡ true
  rounded_passes e =
      within_in_range (rounded v)
      (rounded_small 32767 v (within_more 32768 2097088 v (in_range_within v (last_in_range_lem v (sym lone_range ∙ e))) tt))

module _ (pred : List ℕ) (pred_off pred_stride : ℕ) where
  bytes_pass : ((i : ℕ) → get_or pred i 0 < 256) → all_in_range (block_of 4 (λ x y. pos (square pred pred_off pred_stride x y))) ≡ true
  bytes_pass h =
      all_true _
      (λ k l. ap in_range (get_d_table (pos 0) 16 (λ k. pos (square pred pred_off pred_stride (k % 4) (k / 4))) k (rw (length_table (pos 0)) at l))
      ∙ within_in_range _ (record { within = omega (arith, h (pred_off + k / 4 * pred_stride + k % 4)) }))

  module _ (rec : List ℕ) (rec_off rec_stride : ℕ) where
    flat_into : (v : ℤ) → in_range4x4 (lone v) ≡ true
        → into (in_range (rounded v)) (replicate 16 (rounded v)) pred pred_off pred_stride rec rec_off rec_stride
        ≡ into (in_range4x4 (lone v)) (inverse4x4 (lone v)) pred pred_off pred_stride rec rec_off rec_stride
    flat_into v e = ap₂ (λ numbers res. into numbers res pred pred_off pred_stride rec rec_off rec_stride) (rounded_passes v e ∙ sym e) (sym (flat v))

    arrays_into : (res : List ℤ) → into_room 4 (length pred) pred_off pred_stride (length rec) rec_off rec_stride ≡ true
        → block_of 4 (square (put_square 4 rec_off rec_stride (sum_in 4 res pred pred_off pred_stride) rec) rec_off rec_stride)
        ≡ sums 16 res (block_of 4 (λ x y. pos (square pred pred_off pred_stride x y)))
    unfolding sums
    arrays_into res e = table_same 16 _ _ at_place
      where
        at_place : (k : ℕ) → k < 16
            → square (put_square 4 rec_off rec_stride (sum_in 4 res pred pred_off pred_stride) rec) rec_off rec_stride (k % 4) (k / 4)
            ≡ Clip1 (at (block_of 4 (λ x y. pos (square pred pred_off pred_stride x y))) k +ℤ at res k)
        at_place k l =
            let r = room 4 (length pred) pred_off pred_stride (length rec) rec_off rec_stride (k / 4) e (omega arith) in
            let x : k % 4 < 4 = omega arith in
            let n : 4 * (k / 4) + k % 4 ≡ k = omega arith in
            square_at_lem 4 rec_off rec_stride (k % 4) (k / 4) (sum_in 4 res pred pred_off pred_stride) rec r.wide x (omega arith) (omega (arith, r.rec_row))
            ∙ ap₂ (λ p r. Clip1 (p +ℤ at res r)) (sym (get_d_table (pos 0) 16 (λ k. pos (square pred pred_off pred_stride (k % 4) (k / 4))) k l)) n

pub agreement : Agreement
agreement = record {
  flat = flat;
  lone_range = lone_range;
  flat_into = λ v pred po ps rec ro rs. flat_into pred po ps rec ro rs v;
  bytes_pass = bytes_pass;
  arrays_into = λ res pred po ps rec ro rs. arrays_into pred po ps rec ro rs res;
}
