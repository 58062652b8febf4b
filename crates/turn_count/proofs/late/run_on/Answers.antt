-- `turn_count::late::run_on` meets its contract: each number that is passed is the largest so far. Assumes nothing.
use Rattle.std.proofs.Common.{◌≡◌, get_or, length, arith, ap, ◌∙◌}
use Rattle.turn_count.specs.Due.{latest}
use Rattle.turn_count.proofs.Latest.{running_none, running_more, running_all}
use Rattle.turn_count.proofs.late.run_on.Goals as goal

pub loop-x-init : goal.loop-x-init
loop-x-init c = let a = c.args in running_none a.above.now a.row.now c.requires

pub loop-x-preserved : goal.loop-x-preserved
loop-x-preserved c = let l = c.loop-x in
    running_more c.args.above.now l.row l.x l.last c.max-last.result (omega (arith, l.invariant.long)) c.max-last.ensures l.invariant

pub returns-clause-row : goal.returns-clause-row
returns-clause-row c = let l = c.loop-x in running_all c.args.above.now l.row l.x l.last (omega arith) l.invariant

pub returns-clause-last : goal.returns-clause-last
returns-clause-last c = let l = c.loop-x in
    let above = c.args.above.now in
    let e : l.x ≡ length above = omega arith in
    l.invariant.largest ∙ ap (λ n. latest n (λ i. get_or above i 0)) e
