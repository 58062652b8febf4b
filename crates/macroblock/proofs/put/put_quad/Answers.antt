-- `macroblock::put::put_quad` meets its contract: the quad's residuals are those of its four pieces, or all 0. Assumes nothing.
use mathlib.Core.Path.{sym, ◌∙◌}
use Prim.Native.Nat.{◌+◌, ◌*◌, ◌-◌}
use native.Mathlib.Omega.{arith}
use borrow.Rule.Slice.PartMut.{mid_of}
use lib.IntN.{pos}
use Rattle.laws.specs.Range.{at}
use Rattle.macroblock.specs.inner.Blocks.{in_pieces, quad_place}
use Rattle.macroblock.proofs.Sums.{put_sums, block_at_lem, quad_inside, quad_at}
use Rattle.macroblock.proofs.put.put_quad.Goals as goal

pub returns-then-residuals-q-ne0 : goal.returns-then-residuals-q-ne0
returns-then-residuals-q-ne0 c = let a = c.args in
    let l = a.residuals.list.now in
    put_sums 8 a.from.off a.from.stride a.place a.pred.now a.plane.now (λ x y. at (mid_of (64 * a.q) (64 * a.q + 64 - 64 * a.q) l) (quad_place x y)) (in_pieces l (4 * a.q))
    (omega arith) c.put_block.ensures (λ x y hx hy. block_at_lem 64 a.q (quad_place x y) l (quad_inside x y hx hy) ∙ quad_at l a.q x y hx hy)

pub returns-else-residuals-q-ne0 : goal.returns-else-residuals-q-ne0
returns-else-residuals-q-ne0 c = let a = c.args in
    let l = a.residuals.list.now in
    put_sums 8 a.from.off a.from.stride a.place a.pred.now a.plane.now (λ _ _. pos 0) (in_pieces l (4 * a.q)) (omega arith) c.put_block-else-residuals-q-ne0.ensures
    (λ x y hx hy. sym (a.residuals.marked.blank a.q (quad_place x y) (omega arith) (quad_inside x y hx hy) (omega arith)) ∙ quad_at l a.q x y hx hy)
