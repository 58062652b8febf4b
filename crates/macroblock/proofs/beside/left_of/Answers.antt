-- `macroblock::beside::left_of` meets its contract. Where the side is there, the invariant: the samples passed are read. Assumes nothing.
use native.Mathlib.Omega.{arith}
use Rattle.laws.proofs.Tables.{filled_all, table_there, table_absent}
use Rattle.macroblock.specs.Square.{left_of}
use Rattle.macroblock.proofs.beside.left_of.Goals as goal
use Rattle.macroblock.proofs.beside.left_of.Goals.{In-loop-t}

pub returns-after-loop-t : goal.returns-after-loop-t
unfolding left_of
returns-after-loop-t g c = table_there _ _ 0 _ _ c.if-sides.true (filled_all 0 _ _ _ _ (omega arith) c.loop-t.invariant)

pub returns-else-sides : goal.returns-else-sides
unfolding left_of
returns-else-sides g c = table_absent g.row.Q _ 0 c.args.sides.left _ c.if-sides.false c.requires.zeros
