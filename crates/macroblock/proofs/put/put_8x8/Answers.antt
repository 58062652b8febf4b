-- `macroblock::put::put_8x8` meets its contract: the block's residuals are its 64, or all 0. Assumes nothing.
use mathlib.Core.Path.{sym}
use Prim.Native.Nat.{◌+◌, ◌*◌, ◌-◌}
use native.Mathlib.Omega.{arith}
use borrow.Rule.Slice.PartMut.{mid_of}
use lib.IntN.{pos}
use Rattle.laws.specs.Range.{at}
use Rattle.macroblock.proofs.Sums.{put_sums, block_at_lem}
use Rattle.macroblock.proofs.put.put_8x8.Goals as goal

pub returns-then-residuals-k-ne0 : goal.returns-then-residuals-k-ne0
returns-then-residuals-k-ne0 c = let a = c.args in
    let l = a.residuals.list.now in
    put_sums 8 0 8 a.place a.pred.now a.plane.now (λ x y. at (mid_of (64 * a.k) (64 * a.k + 64 - 64 * a.k) l) (8 * y + x)) (λ x y. at l (64 * a.k + (8 * y + x)))
    (omega arith) c.put_block.ensures (λ x y hx hy. block_at_lem 64 a.k (8 * y + x) l (omega arith))

pub returns-else-residuals-k-ne0 : goal.returns-else-residuals-k-ne0
returns-else-residuals-k-ne0 c = let a = c.args in
    let l = a.residuals.list.now in
    put_sums 8 0 8 a.place a.pred.now a.plane.now (λ _ _. pos 0) (λ x y. at l (64 * a.k + (8 * y + x))) (omega arith) c.put_block-else-residuals-k-ne0.ensures
    (λ x y hx hy. sym (a.residuals.marked.blank a.k (8 * y + x) (omega arith) (omega arith) (omega arith)))
