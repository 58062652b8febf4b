-- `jiwarbend::schedule::jiwarbend_check_order` meets its contract, which is the routine's own with what its yes and no say. Assumes nothing.
use mathlib.Core.Path.{sym, ◌∙◌}
use Rattle.order_check.proofs.Told.{told_by}
use Rattle.replays.proofs.Replay.{replays}
use Rattle.jiwarbend.proofs.schedule.jiwarbend_check_order.Goals as goal

pub returns-clause-told : goal.returns-clause-told
returns-clause-told c = λ e. let a = c.args in told_by a.w a.h a.slices.now a.order.now (sym c.check_order.ensures.value ∙ e)

pub returns-clause-replay : goal.returns-clause-replay
returns-clause-replay c = replays
