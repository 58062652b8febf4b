-- `jiwarbend::intra::jiwarbend_intra8x8_pred` meets its contract, which is the routine's own, and what is proved of cases on their side. Assumes nothing.
use Rattle.turned.proofs.TurnedBlock.{turned_8x8}
use Rattle.jiwarbend.proofs.intra.jiwarbend_intra8x8_pred.Goals as goal

pub returns-clause-turned_block : goal.returns-clause-turned_block
returns-clause-turned_block c = turned_8x8
