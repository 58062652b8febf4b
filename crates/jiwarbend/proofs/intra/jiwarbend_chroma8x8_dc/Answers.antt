-- `jiwarbend::intra::jiwarbend_chroma8x8_dc` meets its contract: it is mode 0 of the predictor, which is permitted anywhere. Assumes nothing.
use Rattle.samples.specs.IntraChroma.{pred_c}
use Rattle.jiwarbend.proofs.intra.jiwarbend_chroma8x8_dc.Goals as goal

pub returns : goal.returns
unfolding pred_c
returns c = record { value = c.chroma8x8_pred_into.ensures.answer; out_after = rw c.three.ensures at c.chroma8x8_pred_into.ensures.lent }
