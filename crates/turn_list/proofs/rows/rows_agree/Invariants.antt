-- `turn_list::rows::rows_agree` meets its contract: the counts above row y agree. Assumes nothing.
use Rattle.std.proofs.Common.{◌≡◌, true, nat_eq, get_or}
use Rattle.laws.specs.Table.{all_below}
use Rattle.turn_list.specs.Turn.{gapless}
use Rattle.turn_list.proofs.rows.rows_agree.Given as goal

abbrev pub invariant-loop-y : goal.invariant-loop-y
invariant-loop-y l = all_below l.y (λ y. nat_eq (get_or l.rows y 0) (gapless l.w l.done y)) ≡ true
