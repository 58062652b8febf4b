-- `order_check::check::all_inside` meets its contract: every entry is looked at. Assumes nothing.
use Rattle.std.proofs.Common.{rules, true, ◌&&◌, ◌∙◌}
use Rattle.std.proofs.lemmas.Iterator.{YieldsList-from_slice}
use Rattle.std.proofs.lemmas.Iterator.Consumers.{fold_from_yields_List}
use borrow.Author.Tests.{tests}
use lib.Dec.{ltb}
use Rattle.turn_list.proofs.Leading.{and_list, all_list}
use Rattle.order_check.proofs.check.all_inside.Goals as goal

pub returns : goal.returns
returns c = let a = c.args in
    fold_from_yields_List _ (λ inside b. inside && ltb b a.total) true _ c.fold.ensures.ran (YieldsList-from_slice a.order.now cc) (λ t x b q k. search (rules, tests))
    ∙ and_list (λ b. ltb b a.total) true a.order.now ∙ all_list (λ b. ltb b a.total) a.order.now
