-- `residual::reconstruct::put_rows` meets its contract. The invariant: the first y rows are put. Assumes nothing.
use mathlib.Core.Path.{◌≡◌, ap, ◌∙◌}
use native.Mathlib.Omega.{arith}
use lib.ListN.{length, length-take, length-drop}
use Rattle.residual.specs.Reconstruct.{sum_in}
use Rattle.residual.proofs.Rooms.{room}
use Rattle.residual.proofs.Squares.{put_rows, rows_none, rows_more}
use Rattle.residual.proofs.reconstruct.put_rows.Goals as goal

pub loop-y-init : goal.loop-y-init
loop-y-init c = let a = c.args in
    (omega arith, rows_none 4 a.to.off a.to.stride (sum_in 4 a.res.now a.pred.now a.from.off a.from.stride) a.rec.now)

pub put_four-requires : goal.put_four-requires
put_four-requires c = let w = room 4 (length c.args.pred.now) c.args.from.off c.args.from.stride (length c.args.rec.now) c.args.to.off c.args.to.stride c.loop-y.y c.requires (omega arith) in
    (omega arith, omega arith, simp (length-take, length-drop) (omega arith))

pub loop-y-preserved : goal.loop-y-preserved
loop-y-preserved c = let a = c.args in
    let w = room 4 (length c.args.pred.now) c.args.from.off c.args.from.stride (length c.args.rec.now) c.args.to.off c.args.to.stride c.loop-y.y c.requires (omega arith) in (
      omega arith,
      rows_more 4 a.to.off a.to.stride c.loop-y.y (sum_in 4 a.res.now a.pred.now a.from.off a.from.stride) w.wide a.rec.now c.loop-y.rec
          c.put_four.new.row (omega arith) c.loop-y.invariant.1 c.put_four.ensures,
    )

pub returns : goal.returns
returns c = let a = c.args in
    let e : c.loop-y.y ≡ 4 = omega arith in
    c.loop-y.invariant.1 ∙ ap (λ n. put_rows 4 a.to.off a.to.stride n (sum_in 4 a.res.now a.pred.now a.from.off a.from.stride) a.rec.now) e

pub overflow_mul-at : goal.overflow_mul-at
overflow_mul-at c = let w = room 4 (length c.args.pred.now) c.args.from.off c.args.from.stride (length c.args.rec.now) c.args.to.off c.args.to.stride c.loop-y.y c.requires (omega arith) in omega arith

pub overflow_add-at : goal.overflow_add-at
overflow_add-at c = let w = room 4 (length c.args.pred.now) c.args.from.off c.args.from.stride (length c.args.rec.now) c.args.to.off c.args.to.stride c.loop-y.y c.requires (omega arith) in omega arith

pub overflow_mul-y : goal.overflow_mul-y
overflow_mul-y c = let w = room 4 (length c.args.pred.now) c.args.from.off c.args.from.stride (length c.args.rec.now) c.args.to.off c.args.to.stride c.loop-y.y c.requires (omega arith) in omega arith

pub overflow_mul-y-in-loop-y : goal.overflow_mul-y-in-loop-y
overflow_mul-y-in-loop-y c = let w = room 4 (length c.args.pred.now) c.args.from.off c.args.from.stride (length c.args.rec.now) c.args.to.off c.args.to.stride c.loop-y.y c.requires (omega arith) in omega arith

pub overflow_add-from : goal.overflow_add-from
overflow_add-from c = let w = room 4 (length c.args.pred.now) c.args.from.off c.args.from.stride (length c.args.rec.now) c.args.to.off c.args.to.stride c.loop-y.y c.requires (omega arith) in omega arith

pub slice_bounds-put_four-count : goal.slice_bounds-put_four-count
slice_bounds-put_four-count c = let w = room 4 (length c.args.pred.now) c.args.from.off c.args.from.stride (length c.args.rec.now) c.args.to.off c.args.to.stride c.loop-y.y c.requires (omega arith) in omega arith

pub slice_bounds-put_four-start : goal.slice_bounds-put_four-start
slice_bounds-put_four-start c = let w = room 4 (length c.args.pred.now) c.args.from.off c.args.from.stride (length c.args.rec.now) c.args.to.off c.args.to.stride c.loop-y.y c.requires (omega arith) in omega arith

pub slice_bounds-put_four-end : goal.slice_bounds-put_four-end
slice_bounds-put_four-end c = let w = room 4 (length c.args.pred.now) c.args.from.off c.args.from.stride (length c.args.rec.now) c.args.to.off c.args.to.stride c.loop-y.y c.requires (omega arith) in omega arith
