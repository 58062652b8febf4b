-- `jiwarbend::schedule::jiwarbend_count_rows` meets its contract, which is the routine's own with what follows for turns. Assumes nothing.
use Rattle.turn_list.proofs.Agreed.{agreed}
use Rattle.jiwarbend.proofs.schedule.jiwarbend_count_rows.Goals as goal

pub returns-clause-by_index : goal.returns-clause-by_index
returns-clause-by_index c = λ slices. let a = c.args in agreed a.w a.h slices a.done.now
