-- `order_check::early::Placed::earliest_between` meets its contract: so far the number is the least place of the inner columns before x. Assumes nothing.
use Rattle.std.proofs.Common.{◌+◌, arith, sym, subst}
use Rattle.order_check.specs.inner.Places.{Least, EarlyBetween}
use Rattle.order_check.proofs.Least.{between_none, between_more, between_end}
use Rattle.order_check.proofs.early.Placed.earliest_between.Goals as goal

pub loop-x-init : goal.loop-x-init
loop-x-init c = let s = c.args.self in
    record { inner = λ l. absurd (omega arith); least = between_none s.map.w s.map.slices.now s.places.now c.args.y 1 }

pub loop-x-preserved : goal.loop-x-preserved
loop-x-preserved c = let l = c.loop-x in
    let s = c.args.self in
    record {
      inner = λ _. omega arith;
      least = subst (Least (EarlyBetween s.map.w s.map.slices.now s.places.now c.args.y 1 (l.x + 1))) (sym c.min-first.ensures)
          (between_more s.map.w s.map.slices.now s.places.now c.args.y 1 l.x l.first c.early_between.result (omega arith) l.invariant.least c.early_between.ensures);
    }

pub returns : goal.returns
returns c = let l = c.loop-x in
    let s = c.args.self in
    between_end s.map.w s.map.slices.now s.places.now c.args.y l.x l.first (omega arith) l.invariant.inner (omega arith) l.invariant.least
