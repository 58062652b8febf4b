-- No more cases differ than are read.
use Rattle.std.proofs.Common.{◌≤◌}
use Rattle.lists.proofs.differing.Given as goal

abbrev pub invariant-loop-done : goal.invariant-loop-done
invariant-loop-done g l = l.wrong ≤ l.done
