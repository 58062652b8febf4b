-- `order_check::early::Placed::earliest_between` meets its contract: so far the number is the least place of the inner columns before x. Assumes nothing.
use Rattle.std.proofs.Common.{◌<◌}
use Rattle.order_check.specs.inner.Places.{Least, EarlyBetween}
use Rattle.order_check.proofs.early.Placed.earliest_between.Given as goal

abbrev pub invariant-loop-x : goal.invariant-loop-x
invariant-loop-x l = record {
  inner : 1 < l.x → l.x < l.self.map.w;
  least : Least (EarlyBetween l.self.map.w l.self.map.slices.now l.self.places.now l.y 1 l.x) l.first;
}
