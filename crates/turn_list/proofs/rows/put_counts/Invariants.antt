-- `turn_list::rows::put_counts` meets its contract: the rows above y are counted. Assumes nothing.
use Rattle.std.proofs.Common.{length}
use Rattle.laws.proofs.Tables.{Filled}
use Rattle.turn_list.specs.Turn.{gapless}
use Rattle.turn_list.proofs.rows.put_counts.Given as goal

abbrev pub invariant-loop-y : goal.invariant-loop-y
invariant-loop-y l = Filled 0 (gapless l.w l.done) (length l.initial.rows) l.y l.rows
