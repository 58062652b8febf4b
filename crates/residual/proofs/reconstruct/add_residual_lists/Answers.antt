-- `residual::reconstruct::add_residual_lists` meets its contract: its tests say all that the sums ask. Assumes nothing.
use mathlib.Core.Path.{◌≡◌, sym, ◌∙◌, subst}
use native.Mathlib.Omega.{arith}
use lib.Dec.{lit<}
use lib.ListN.{length, take, length-take}
use Rattle.numbers.proofs.InRange.{both_within}
use Rattle.residual.specs.Reconstruct.{sums}
use Rattle.residual.proofs.Rooms.{summable}
use Rattle.residual.proofs.reconstruct.add_residual_lists.Goals as goal

pub clipped_sums-requires : goal.clipped_sums-requires
clipped_sums-requires c = let a = c.args in
    let s = summable a.n (length a.res.now) (length a.pred.now) (length a.block.now) (sym c.sums_room.ensures ∙ c.if-not-sums_room.false) in
    (lit< tt, ((omega arith, omega arith), both_within a.res.now a.pred.now (sym c.both_in_range.ensures ∙ c.if-not-both_in_range.false)))

pub slice_bounds-copy_from_slice-end : goal.slice_bounds-copy_from_slice-end
slice_bounds-copy_from_slice-end c = let a = c.args in
    let s = summable a.n (length a.res.now) (length a.pred.now) (length a.block.now) (sym c.sums_room.ensures ∙ c.if-not-sums_room.false) in
    omega (arith, c.clipped_sums.ensures.long)

pub slice_bounds-copy_from_slice-end-2 : goal.slice_bounds-copy_from_slice-end-2
slice_bounds-copy_from_slice-end-2 c = let a = c.args in
    let s = summable a.n (length a.res.now) (length a.pred.now) (length a.block.now) (sym c.sums_room.ensures ∙ c.if-not-sums_room.false) in
    omega (arith, length-take a.n c.clipped_sums.result, c.clipped_sums.ensures.long)

pub copy_from_slice-requires : goal.copy_from_slice-requires
copy_from_slice-requires c = let a = c.args in
    let s = summable a.n (length a.res.now) (length a.pred.now) (length a.block.now) (sym c.sums_room.ensures ∙ c.if-not-sums_room.false) in
    omega (arith, length-take a.n c.clipped_sums.result, c.clipped_sums.ensures.long)

pub returns-clause-block_after : goal.returns-clause-block_after
returns-clause-block_after c = let a = c.args in
    let s = summable a.n (length a.res.now) (length a.pred.now) (length a.block.now) (sym c.sums_room.ensures ∙ c.if-not-sums_room.false) in
    c.copy_from_slice.ensures.after ∙ subst (λ n. take n c.clipped_sums.result ≡ sums n a.res.now a.pred.now) s.numbers c.clipped_sums.ensures.sums
