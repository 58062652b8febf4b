-- `waits::luma_ready` meets its contract. The loop's invariant: those are done that hold what the blocks passed read. Assumes nothing.
use Rattle.std.proofs.Common.{◌≡◌, true}
use Rattle.laws.specs.Table.{some_below}
use Rattle.maps.specs.Done.{all_settled}
use Rattle.waits.proofs.Reading.{reading}
use Rattle.waits.proofs.luma_ready.Given as goal

abbrev pub invariant-loop-k : goal.invariant-loop-k
invariant-loop-k l = all_settled l.spot.w l.spot.x l.spot.y (λ d. some_below l.k (reading l.kind l.marks l.modes d)) l.done ≡ true
