-- `turn_list::rows::count_rows` meets its contract: the counts are those of as many rows as the picture has. Assumes nothing.
use mathlib.Core.Path.{sym, ◌∙◌}
use Rattle.maps.proofs.Sizes.{size_is}
use Rattle.turn_list.proofs.Leading.{fitting}
use Rattle.turn_list.proofs.rows.count_rows.Goals as goal

pub put_counts-requires : goal.put_counts-requires
put_counts-requires c = let a = c.args in
    fitting a.w a.h a.done.now a.rows.now (size_is a.w a.h (sym c.size_ok.ensures ∙ c.if-not-size_ok.false)) c.if-done-h.false c.if-rows-h.false
