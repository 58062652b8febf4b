-- `order_check::early::Placed::earliest_in_first_row` meets its contract: so far the number is the least place of the columns before x. Assumes nothing.
use Rattle.std.proofs.Common.{◌≡◌, ◌+◌, arith, sym, subst}
use Rattle.order_check.specs.inner.Places.{Least, EarlyBetween}
use Rattle.order_check.proofs.Least.{between_more}
use Rattle.order_check.proofs.early.Placed.earliest_in_first_row.Goals as goal

pub loop-x-preserved : goal.loop-x-preserved
loop-x-preserved c = let l = c.loop-x in
    let s = c.args.self in
    subst (Least (EarlyBetween s.map.w s.map.slices.now s.places.now 0 0 (l.x + 1))) (sym c.min-first.ensures)
    (between_more s.map.w s.map.slices.now s.places.now 0 0 l.x l.first c.early_in_first_row.result (omega arith) l.invariant c.early_in_first_row.ensures)

pub returns : goal.returns
returns c = let l = c.loop-x in
    let s = c.args.self in
    let e : l.x ≡ s.map.w = omega arith in
    subst (λ n. Least (EarlyBetween s.map.w s.map.slices.now s.places.now 0 0 n) l.first) e l.invariant
