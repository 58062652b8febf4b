-- `residual::reconstruct::reconstruct_4x4_lists` meets its contract: its tests say all that the sums ask. Assumes nothing.
use mathlib.Core.Path.{refl, sym, ap, ◌∙◌, subst}
use native.Mathlib.Omega.{arith}
use lib.Dec.{lit<}
use lib.ListN.{length}
use Rattle.laws.specs.Range.{AllWithin}
use Rattle.laws.proofs.Answers.{passes_by}
use Rattle.numbers.proofs.InRange.{all_within}
use Rattle.residual.specs.Inverse.{in_range4x4}
use Rattle.residual.proofs.Halfway.{in_numbers}
use Rattle.residual.proofs.Transform.{of_block, inverse_within}
use Rattle.residual.proofs.Rooms.{summable}
use Rattle.residual.proofs.reconstruct.reconstruct_4x4_lists.Goals as goal

pub invert_one-requires : goal.invert_one-requires
invert_one-requires c = let a = c.args in
    ((summable 16 (length a.deq.now) (length a.pred.now) (length a.block.now) (sym c.sums_room.ensures ∙ c.if-not-sums_room.false)).numbers, refl)

pub clipped_sums-requires : goal.clipped_sums-requires
clipped_sums-requires c = let a = c.args in
    let s = summable 16 (length a.deq.now) (length a.pred.now) (length a.block.now) (sym c.sums_room.ensures ∙ c.if-not-sums_room.false) in
    let r = c.in_ok-widen_all.ensures.out_after ∙ c.in_ok-invert_one.ensures.residuals in
    let n = ap length r ∙ of_block.long a.deq.now in
    let good = (passes_by 7 (in_range4x4 a.deq.now) 0 (sym c.in_ok-invert_one.ensures.value)).0 in (
      lit< tt,
      (
        (omega arith, omega arith),
        (
          subst (AllWithin 32768) (sym r) (inverse_within a.deq.now (in_numbers a.deq.now s.numbers good)),
          all_within a.pred.now (sym c.all_in_range.ensures ∙ c.if-not-all_in_range.false),
        ),
      ),
    )

pub copy_from_slice-requires : goal.copy_from_slice-requires
copy_from_slice-requires c = let a = c.args in
    let s = summable 16 (length a.deq.now) (length a.pred.now) (length a.block.now) (sym c.sums_room.ensures ∙ c.if-not-sums_room.false) in
    omega (arith, c.clipped_sums.ensures.long)
