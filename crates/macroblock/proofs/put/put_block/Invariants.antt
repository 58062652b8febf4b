-- `macroblock::put::put_block` meets its contract. The invariant: the first y rows are put. Assumes nothing.
use Rattle.macroblock.proofs.Rows.{Rows}
use Rattle.macroblock.proofs.put.put_block.Given as goal

abbrev pub invariant-loop-y : goal.invariant-loop-y
invariant-loop-y g l = Rows g.row.N l.off l.place.stride l.from.off l.from.stride l.pred (g.R.Residual.value l.residual) l.initial.plane l.y l.plane
