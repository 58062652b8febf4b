-- `macroblock::beside::above_of` meets its contract. The invariant of both loops: the samples passed are read. Assumes nothing.
use Rattle.laws.proofs.Tables.{Filled}
use Rattle.macroblock.proofs.Fitting.{above_at}
use Rattle.macroblock.proofs.beside.above_of.Given as goal

abbrev pub invariant-loop-t : goal.invariant-loop-t
invariant-loop-t g l = Filled 0 (above_at g.row.Q l.fn.place l.plane l.fn.sides.above_right) g.row.W l.t l.out

abbrev pub invariant-loop-t-then-sides-2 : goal.invariant-loop-t-then-sides-2
invariant-loop-t-then-sides-2 g l = Filled 0 (above_at g.row.Q l.fn.place l.plane l.fn.sides.above_right) g.row.W l.t l.out
