-- `jiwarbend::intra::jiwarbend_intra4x4_pred` meets its contract, which is the routine's own, and what is proved of cases on their side. Assumes nothing.
use Rattle.turned.proofs.TurnedBlock.{turned_4x4}
use Rattle.jiwarbend.proofs.intra.jiwarbend_intra4x4_pred.Goals as goal

pub returns-clause-turned_block : goal.returns-clause-turned_block
returns-clause-turned_block c = turned_4x4
