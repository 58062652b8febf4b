-- The first j rows are put.
use Rattle.cores.proofs.Rects.{Rows}
use Rattle.cores.proofs.copy.copy_rect.Given as goal

abbrev pub invariant-loop-j : goal.invariant-loop-j
invariant-loop-j g l = Rows g.row.W l.height l.taken.off l.taken.stride l.put.off l.put.stride l.from l.initial.to l.j l.to
