-- A block of which no number but the first is other than 0 has equal residuals, and is in range where that number is not too high. Assumes nothing.
use mathlib.Core.Path.{◌≡◌, refl, sym, ap, ◌∙◌}
use mathlib.Core.Bool.{true, ◌&&◌}
use mathlib.Core.List.{List}
use Prim.Native.Nat.{ℕ, zero, suc, ◌+◌, ◌*◌, ◌-◌, ◌<◌, ◌≤◌}
use native.Mathlib.Omega.{arith}
use borrow.Rule.Slice.PartMut.{mid_of, mid_len}
use lib.IntN.{ℤ, pos}
use lib.ListN.{length, replicate, get_or-replicate}
use lib.Signed.{le_z}
use Rattle.laws.specs.Range.{at, minus}
use Rattle.laws.specs.Table.{table, blockwise, all_below}
use Rattle.laws.proofs.Blockwise.{blockwise_at}
use Rattle.laws.proofs.Stretches.{part_at}
use Rattle.laws.proofs.Tables.{get_d_table}
use Rattle.laws.proofs.Tests.{and_left, all_at, all_same}
use Rattle.numbers.specs.Numbers.{in_range, all_in_range, all_of, is_zero, last_in_range}
use Rattle.numbers.proofs.InRange as in_range_lem
use Rattle.residual.specs.Inverse.{rounded}
use Rattle.residual.specs.Quads.{coded_quad}
use Rattle.residual.proofs.Quads.{zero_is, uncoded}
use Rattle.transform_8x8.specs.Flat.{lone}
use Rattle.transform_8x8.specs.Inverse8x8.{inverse8x8, in_range8x8}
use Rattle.transform_8x8.specs.inner.Firsts.{OnlyFirst}
use Rattle.transform_8x8.proofs.Columns.{of_block}
use Rattle.transform_8x8.proofs.Flat.{flat}
use Rattle.transform_8x8.proofs.Halfway.{range_of_block}

module _ (d : List ℤ) (F : OnlyFirst d) where
  is_lone : (k : ℕ) → k < 64 → at d k ≡ at (lone (at d 0)) k
  is_lone zero h = refl
  is_lone (suc k) h = F.rest (suc k) (omega arith) h ∙ sym (get_or-replicate 63 k (pos 0) (pos 0) (omega arith))

  pub first_inverse : inverse8x8 d ≡ replicate 64 (rounded (at d 0))
  first_inverse = of_block.same d (lone (at d 0)) is_lone ∙ flat.flat (at d 0)

  pub first_range : all_in_range d ≡ true → in_range8x8 d ≡ le_z (at d 0) (pos 32735)
  unfolding in_range last_in_range
  first_range e =
      range_of_block.same d (lone (at d 0)) is_lone ∙ flat.lone_range (at d 0)
      ∙ ap (λ t. t && le_z (at d 0) (pos 32735)) (and_left (le_z (minus 32768) (at d 0)) (le_z (at d 0) (pos 32767)) (in_range_lem.all_at d 0 e))

-- ---- a block of zeros
module _ (d : List ℤ) (z : all_below 64 (λ k. is_zero (at d k)) ≡ true) where
  zero_at : (k : ℕ) → k < 64 → at d k ≡ pos 0
  zero_at k h = zero_is (at d k) (all_at 64 (λ k. is_zero (at d k)) z k h)

  zero_first : OnlyFirst d
  zero_first = record { rest = λ i p h. zero_at i h }

  pub zero_inverse : inverse8x8 d ≡ replicate 64 (pos 0)
  unfolding rounded
  zero_inverse = first_inverse d zero_first ∙ ap (λ v. replicate 64 (rounded v)) (zero_at 0 (omega arith))

  pub zero_range : all_in_range d ≡ true → in_range8x8 d ≡ true
  zero_range e = first_range d zero_first e ∙ ap (λ v. le_z v (pos 32735)) (zero_at 0 (omega arith))

-- the numbers after the first, as a part of the list
pub rest_zero : (d : List ℤ) → 64 ≤ length d → all_of is_zero (mid_of 1 63 d) ≡ true → OnlyFirst d
rest_zero d room e = record {
  rest = λ i p h.
      let m : 1 + (i - 1) ≡ i = omega arith in
      sym (part_at (pos 0) d 1 63 (i - 1) (omega arith) ∙ ap (at d) m)
      ∙ zero_is (at (mid_of 1 63 d) (i - 1)) (all_at (length (mid_of 1 63 d)) (λ k. is_zero (at (mid_of 1 63 d) k)) e (i - 1) (omega (arith, mid_len 1 64 d room)));
}

-- a block that is not marked has residuals that are 0
pub blank_block : (l : List ℤ) (q i : ℕ) → i < 64 → 64 * q + i < length l → coded_quad l q ≡ 0 → at (blockwise 64 inverse8x8 l) (64 * q + i) ≡ pos 0
blank_block l q i h room e =
    let d = table 64 (λ k. at l (64 * q + k)) in
    blockwise_at 64 q i inverse8x8 l h room
    ∙ ap (λ t. at t i) (zero_inverse d (all_same 64 _ _ (λ k g. ap is_zero (get_d_table (pos 0) 64 (λ k. at l (64 * q + k)) k g)) ∙ uncoded l q e))
    ∙ get_or-replicate 64 i (pos 0) (pos 0) h
