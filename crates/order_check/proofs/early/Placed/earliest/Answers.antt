-- `order_check::early::Placed::earliest` meets its contract: so far the number is the least place in the rows above y. Assumes nothing.
use Rattle.std.proofs.Common.{◌≡◌, ◌+◌, arith, sym, subst}
use Rattle.order_check.specs.inner.Places.{Least, EarlyIn}
use Rattle.order_check.proofs.Least.{rows_first, rows_more}
use Rattle.order_check.proofs.early.Placed.earliest.Goals as goal

pub loop-y-init : goal.loop-y-init
loop-y-init c = let s = c.args.self in
    rows_first s.map.w s.map.slices.now s.places.now c.earliest_in_first_row-first.result c.earliest_in_first_row-first.ensures

pub loop-y-preserved : goal.loop-y-preserved
loop-y-preserved c = let l = c.loop-y in
    let s = c.args.self in
    subst (Least (EarlyIn s.map.w (l.y + 1) s.map.slices.now s.places.now)) (sym c.min-first.ensures)
    (rows_more s.map.w s.map.slices.now s.places.now l.y l.first c.earliest_in_row.result l.invariant c.earliest_in_row.ensures)

pub returns : goal.returns
returns c = let l = c.loop-y in
    let s = c.args.self in
    let e : l.y ≡ s.map.h = omega (arith, s.map.fits.size.some_h) in
    subst (λ n. Least (EarlyIn s.map.w n s.map.slices.now s.places.now) l.first) e l.invariant
