-- `turn_count::late::run_on` meets its contract: each number that is passed is the largest so far. Assumes nothing.
use Rattle.turn_count.proofs.Latest.{Running}
use Rattle.turn_count.proofs.late.run_on.Given as goal

abbrev pub invariant-loop-x : goal.invariant-loop-x
invariant-loop-x l = Running l.above l.x l.last l.row
