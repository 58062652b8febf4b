-- `jiwarbend::schedule::jiwarbend_turn` meets its contract, which is the routine's own with what comes of a turn. Assumes nothing.
use Rattle.turns.proofs.OneTurn.{one_turn}
use Rattle.jiwarbend.proofs.schedule.jiwarbend_turn.Goals as goal

pub returns-clause-one_turn : goal.returns-clause-one_turn
returns-clause-one_turn c = one_turn
