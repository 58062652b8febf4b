-- `jiwarbend::schedule::jiwarbend_out_of_place` meets its contract, which is the routine's own with what its place says. Assumes nothing.
use mathlib.Core.Path.{sym, ◌∙◌}
use Rattle.order_check.proofs.Told.{told_by}
use Rattle.jiwarbend.proofs.schedule.jiwarbend_out_of_place.Goals as goal

pub returns-clause-told : goal.returns-clause-told
returns-clause-told c = λ e. let a = c.args in told_by a.w a.h a.slices.now a.order.now (sym c.out_of_place.ensures.value ∙ e)
