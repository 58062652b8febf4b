-- `turn_list::turn::list_turn` meets its contract: after y rows the list begins with the turn of a picture y rows high. Assumes nothing.
use Rattle.std.proofs.Common.{◌+◌, arith, sym, ◌∙◌}
use mathlib.Core.Path.{subst₂}
use Rattle.turn_list.proofs.Listing.{Listing, listing_none, listing_skip, listing_put}
use Rattle.turn_list.proofs.turn.list_turn.Goals as goal
use Rattle.turn_list.proofs.turn.list_turn.Goals.{then-may_start, else-may_start}

pub loop-y-init : goal.loop-y-init
loop-y-init c = let a = c.args in listing_none a.map.w a.map.slices.now a.done.now a.list.now

pub loop-y-preserved : goal.loop-y-preserved
loop-y-preserved c = let a = c.args in
    let l = c.loop-y in
    let count = c.requires.0.each l.y (omega (arith, c.requires.0.high)) in
    let so_far = Listing a.map.w a.map.slices.now a.done.now a.list.now (l.y + 1) in
    elim c.if-may_start.branch [
      | then-may_start t ↦ subst₂ so_far (sym t.many-is) (sym t.list-is)
          (listing_put a.map.w a.map.slices.now a.done.now a.list.now _ l.y l.many l.list count (sym c.may_start.ensures ∙ t.if-may_start.true)
          (omega (arith, l.invariant.most, c.requires.0.high, c.requires.1)) l.invariant)
      | else-may_start t ↦ subst₂ so_far (sym t.many-is) (sym t.list-is)
          (listing_skip a.map.w a.map.slices.now a.done.now a.list.now _ l.y l.many l.list count (sym c.may_start.ensures ∙ t.if-may_start.false) l.invariant)
    ]
