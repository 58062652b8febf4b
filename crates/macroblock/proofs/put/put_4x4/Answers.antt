-- `macroblock::put::put_4x4` meets its contract: the block's residuals are its sixteen. Assumes nothing.
use Prim.Native.Nat.{◌+◌, ◌*◌, ◌-◌}
use native.Mathlib.Omega.{arith}
use borrow.Rule.Slice.PartMut.{mid_of}
use Rattle.laws.specs.Range.{at}
use Rattle.macroblock.specs.inner.Blocks.{in_piece}
use Rattle.macroblock.proofs.Sums.{put_sums, block_at_lem}
use Rattle.macroblock.proofs.put.put_4x4.Goals as goal

pub returns : goal.returns
returns c = let a = c.args in
    let l = a.residuals.list.now in
    put_sums 4 0 4 a.place a.pred.now a.plane.now (λ x y. at (mid_of (16 * a.b) (16 * a.b + 16 - 16 * a.b) l) (4 * y + x)) (in_piece l a.b) (omega arith) c.put_block.ensures
    (λ x y hx hy. block_at_lem 16 a.b (4 * y + x) l (omega arith))
