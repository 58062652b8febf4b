-- `turn_list::rows::leading_done` meets its contract: the groups that are done lead, and behind them the bytes that are. Assumes nothing.
use Rattle.std.proofs.Common.{◌≡◌, ℕ, ◌+◌, ◌*◌, ◌/◌, ◌-◌, length, drop, take_all, length-drop, rules, arith, ◌∙◌, ap}
use Rattle.std.specs.List.{list_all, prefix_len}
use Rattle.std.specs.Simd.{first_chunks}
use Rattle.std.proofs.lemmas.Iterator.{YieldsList-from_slice}
use Rattle.std.proofs.lemmas.Iterator.Consumers.{YieldsList-at, count_from_yields_List}
use Rattle.std.proofs.lemmas.Iterator.Search.{YieldsList-from_take_while}
use Rattle.std.proofs.lemmas.List.Folds.{length-prefix_len}
use borrow.Author.Tests.{tests}
use Rattle.turn_list.specs.inner.Rows.{is_one}
use Rattle.turn_list.proofs.Leading.{by_groups}
use Rattle.turn_list.proofs.rows.leading_done.Goals as goal

pub returns-clause-count : goal.returns-clause-count
returns-clause-count c =
    let row = c.args.row.now in
    let groups = first_chunks 16 (length row / 16) row in
    let g = by_groups 16 (length row / 16) row (omega arith) in
    let first : c.count-first.result ≡ prefix_len (list_all is_one) groups =
    count_from_yields_List c.take_while.result c.count-first.result c.count-first.ensures.ran
    (YieldsList-from_take_while _ (list_all is_one) (YieldsList-at c.take_while.ensures.source (YieldsList-from_slice groups cc))
    c.take_while.ensures.closure c.take_while.ensures.done (λ x b q k. search (rules, tests)))
    ∙ length-prefix_len (list_all is_one) groups in
    let rest = drop (16 * c.count-first.result) row in
    let behind : c.count.result ≡ prefix_len is_one rest =
    count_from_yields_List c.take_while-2.result c.count.result c.count.ensures.ran
    (YieldsList-from_take_while _ is_one
    (YieldsList-at c.take_while-2.ensures.source
    (YieldsList-from_slice rest (c.iter-2.ensures.rest ∙ take_all (length row - 16 * c.count-first.result) rest (omega (arith, length-drop {A = ℕ})))))
    c.take_while-2.ensures.closure c.take_while-2.ensures.done (λ x b q k. search (rules, tests)))
    ∙ length-prefix_len is_one rest in
    omega (arith, first, behind, ap (λ m. 16 * m + prefix_len is_one (drop (16 * m) row)) first, g.is)
