-- `turn_list::turn::turn` meets its contract: it lists a turn where the counts agree at the picture's height. Assumes nothing.
use Rattle.std.proofs.Common.{◌≡◌, ℕ, List, true, length, sym, ap, ◌∙◌}
use mathlib.Core.Path.{subst₂}
use borrow.Author.Tests.{eqb-true}
use lib.Dec.{eqb}
use lib.ListN.{get_or}
use Rattle.laws.proofs.Tests.{all_at}
use Rattle.turn_list.specs.Turn.{gapless, agree_rule}
use Rattle.turn_list.specs.inner.Rows.{RowsAgree}
use Rattle.turn_list.proofs.turn.turn.Goals as goal

-- counts that agree, row by row
rows_agreed : (w h : ℕ) (done rows : List ℕ) → length rows ≡ h → (agree_rule w (length rows) done rows).holds ≡ true → RowsAgree w h done rows
rows_agreed w h done rows e a = record {
  high = e;
  each = λ y l. eqb-true _ _ (all_at h (λ i. eqb (get_or rows i 0) (gapless w done i)) (sym (ap (λ n. (agree_rule w n done rows).holds) e) ∙ a) y l);
}

pub list_turn-requires : goal.list_turn-requires
list_turn-requires c = let a = c.args in
    let m = c.in_ok-map.ensures.map in
    let e = c.if-rows-h.false in
    subst₂ (λ w h. RowsAgree w h a.done.now a.rows.now × (length a.list.now ≡ h)) (sym m.0) (sym m.1)
    (rows_agreed a.w a.h a.done.now a.rows.now e (sym c.rows_agree.ensures ∙ c.if-not-rows_agree.false), c.if-list-rows.false ∙ e)
