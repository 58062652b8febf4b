-- `order_check::early::Placed::earliest_in_first_row` meets its contract: so far the number is the least place of the columns before x. Assumes nothing.
use Rattle.order_check.specs.inner.Places.{Least, EarlyBetween}
use Rattle.order_check.proofs.early.Placed.earliest_in_first_row.Given as goal

abbrev pub invariant-loop-x : goal.invariant-loop-x
invariant-loop-x l = Least (EarlyBetween l.self.map.w l.self.map.slices.now l.self.places.now 0 0 l.x) l.first
