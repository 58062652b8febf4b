-- `turn_list::rows::rows_agree` meets its contract: the loop ends at the first count that disagrees. Assumes nothing.
use Rattle.std.proofs.Common.{ℕ, List, Bool, arith, sym, nat_eq, get_or, length}
use borrow.Author.Tests.{eq-eqb, ne_eqb}
use Rattle.laws.proofs.Tests.{all_none, all_more, all_no}
use Rattle.turn_list.specs.Turn.{gapless}
use Rattle.turn_list.proofs.rows.rows_agree.Goals as goal

-- a row's count agrees
abbrev agrees : (w : ℕ) (done rows : List ℕ) → ℕ → Bool
agrees w done rows y = nat_eq (get_or rows y 0) (gapless w done y)

pub loop-y-init : goal.loop-y-init
loop-y-init c = let a = c.args in all_none (agrees a.w a.done.now a.rows.now)

pub returns-then-count-done_from_left : goal.returns-then-count-done_from_left
returns-then-count-done_from_left c = let a = c.args in
    sym (all_no (length a.rows.now) (agrees a.w a.done.now a.rows.now) c.loop-y.y c.loop-y-test.true
    (ne_eqb _ _ (λ e. omega (arith, c.done_from_left.ensures))))

pub loop-y-preserved : goal.loop-y-preserved
loop-y-preserved c = let a = c.args in
    all_more c.loop-y.y (agrees a.w a.done.now a.rows.now) c.loop-y.invariant (eq-eqb _ _ (omega (arith, c.done_from_left.ensures)))
