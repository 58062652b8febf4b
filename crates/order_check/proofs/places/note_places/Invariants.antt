-- `order_check::places::note_places` meets its contract: the entries before i are noted. Assumes nothing.
use Rattle.order_check.specs.inner.Places.{NotedTo}
use Rattle.order_check.proofs.places.note_places.Given as goal

abbrev pub invariant-loop-i : goal.invariant-loop-i
invariant-loop-i l = NotedTo l.order l.i l.places
