-- `waits::luma_waited` meets its contract. The loop's invariant: who holds what the blocks passed read. Assumes nothing.
use Rattle.std.proofs.Common.{◌≡◌}
use Rattle.laws.specs.Table.{some_below}
use Rattle.maps.specs.Neighbours.{marks_of}
use Rattle.waits.proofs.Reading.{reading}
use Rattle.waits.proofs.luma_waited.Given as goal

abbrev pub invariant-loop-k : goal.invariant-loop-k
invariant-loop-k l = marks_of l.all ≡ (λ d. some_below l.k (reading l.kind l.marks l.modes d))
