-- `turn_list::rows::done_from_left` meets its contract: a row is a part of the map. Assumes nothing.
use Rattle.std.proofs.Common.{◌*◌, take, drop, arith, ap, ◌∙◌}
use Rattle.std.specs.List.{prefix_len}
use Rattle.turn_list.specs.inner.Rows.{is_one}
use Rattle.turn_list.proofs.Leading.{row_leads}
use Rattle.turn_list.proofs.rows.done_from_left.Goals as goal

pub returns : goal.returns
returns c = let a = c.args in c.leading_done.ensures.count ∙ ap (λ n. prefix_len is_one (take n (drop (a.y * a.w) a.done.now))) (omega arith) ∙ row_leads a.w a.done.now a.y c.requires.2
