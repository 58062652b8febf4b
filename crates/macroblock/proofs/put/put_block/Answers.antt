-- `macroblock::put::put_block` meets its contract. The invariant: the first y rows are put. Assumes nothing.
use mathlib.Core.Path.{refl, ◌∙◌}
use native.Mathlib.Omega.{arith}
use Rattle.macroblock.specs.inner.Blocks.{sum_over}
use Rattle.macroblock.proofs.Places.{put_is_put}
use Rattle.macroblock.proofs.Rows.{none_yet, row_at, one_more, all_put}
use Rattle.macroblock.proofs.Sums.{room_at}
use Rattle.macroblock.proofs.put.put_block.Goals as goal

pub loop-y-init : goal.loop-y-init
loop-y-init g c = none_yet

pub loop-y-preserved : goal.loop-y-preserved
loop-y-preserved g c = let a = c.args in
    one_more c.loop-y.invariant (λ x. g.R.Residual.value a.residual.now x c.loop-y.y) (omega (arith, c.requires.0.wide)) (omega arith)
    (row_at c.loop-y.invariant (room_at c.requires.0) c.requires.1 (omega arith)) refl (λ x h. refl) c.put_row.ensures

pub returns : goal.returns
returns g c = let a = c.args in
    let F = c.requires.0 in
    all_put c.loop-y.invariant (omega arith) ∙ put_is_put g.row.N _ a.place F.some F.wide refl (sum_over a.pred.now a.from.off a.from.stride (g.R.Residual.value a.residual.now)) a.plane.now
