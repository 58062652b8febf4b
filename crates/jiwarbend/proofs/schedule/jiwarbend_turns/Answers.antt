-- `jiwarbend::schedule::jiwarbend_turns` meets its contract, which is the routine's own with what the number says. Assumes nothing.
use mathlib.Core.Path.{sym, ◌∙◌}
use lib.ListN.{length}
use Rattle.turn_count.proofs.HowMany.{counted}
use Rattle.turns.proofs.TurnByTurn.{turn_by_turn}
use Rattle.jiwarbend.proofs.schedule.jiwarbend_turns.Goals as goal

pub returns-clause-how_many : goal.returns-clause-how_many
returns-clause-how_many c = λ e. let a = c.args in counted a.w a.h a.slices.now (length a.slices.now) (sym c.count_turns.ensures.value ∙ e)

pub returns-clause-turn_by_turn : goal.returns-clause-turn_by_turn
returns-clause-turn_by_turn c = turn_by_turn
