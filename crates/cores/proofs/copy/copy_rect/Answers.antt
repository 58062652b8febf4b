-- `cores::copy::copy_rect` meets its contract. The invariant: the first j rows are put. Assumes nothing.
use native.Mathlib.Omega.{arith}
use lib.ListN.{length-take, length-drop}
use Rattle.cores.proofs.Rects.{row_at, none_yet, one_more, all_put}
use Rattle.cores.proofs.copy.copy_rect.Goals as goal

pub copy_row-requires : goal.copy_row-requires
copy_row-requires g c =
    let a = c.args in
    let w = row_at _ _ _ _ _ _ a.from.now a.to.now c.loop-j.j c.loop-j.to c.requires.rect_in.0 c.requires.rect_in.1 c.loop-j.invariant (omega arith) in
    (simp (length-take, length-drop) (omega arith), simp (length-take, length-drop) (omega arith))

pub loop-j-init : goal.loop-j-init
loop-j-init g c = none_yet _ _ _ _ _ _ _ _

pub loop-j-preserved : goal.loop-j-preserved
loop-j-preserved g c =
    let a = c.args in
    let w = row_at _ _ _ _ _ _ a.from.now a.to.now c.loop-j.j c.loop-j.to c.requires.rect_in.0 c.requires.rect_in.1 c.loop-j.invariant (omega arith) in
    one_more _ _ _ _ _ _ a.from.now a.to.now c.loop-j.j c.loop-j.to _ c.requires.width.1 c.loop-j.invariant w (omega arith) c.copy_row.ensures

pub returns : goal.returns
returns g c = let a = c.args in all_put _ _ _ _ _ _ a.from.now a.to.now c.loop-j.j c.loop-j.to c.loop-j.invariant (omega arith)
