-- `turn_list::turn::list_turn` meets its contract: after y rows the list begins with the turn of a picture y rows high. Assumes nothing.
use Rattle.turn_list.proofs.Listing.{Listing}
use Rattle.turn_list.proofs.turn.list_turn.Given as goal

abbrev pub invariant-loop-y : goal.invariant-loop-y
invariant-loop-y l = Listing l.map.w l.map.slices.now l.done l.initial.list l.y l.many l.list
