-- `order_check::early::Placed::earliest` meets its contract: so far the number is the least place in the rows above y. Assumes nothing.
use Rattle.order_check.specs.inner.Places.{Least, EarlyIn}
use Rattle.order_check.proofs.early.Placed.earliest.Given as goal

abbrev pub invariant-loop-y : goal.invariant-loop-y
invariant-loop-y l = Least (EarlyIn l.self.map.w l.y l.self.map.slices.now l.self.places.now) l.first
