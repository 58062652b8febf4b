-- `turn_list::rows::all_done` meets its contract: every byte is looked at. Assumes nothing.
use Rattle.std.proofs.Common.{rules, true, ◌&&◌, ◌∙◌}
use Rattle.std.proofs.lemmas.Iterator.{YieldsList-from_slice}
use Rattle.std.proofs.lemmas.Iterator.Consumers.{fold_from_yields_List}
use borrow.Author.Tests.{tests}
use Rattle.turn_list.specs.inner.Rows.{is_one}
use Rattle.turn_list.proofs.Leading.{and_list}
use Rattle.turn_list.proofs.rows.all_done.Goals as goal

pub returns : goal.returns
returns c =
    fold_from_yields_List _ (λ all byte. all && is_one byte) true _ c.fold.ensures.ran (YieldsList-from_slice c.args.group.now cc) (λ a x b q k. search (rules, tests))
    ∙ and_list is_one true c.args.group.now
