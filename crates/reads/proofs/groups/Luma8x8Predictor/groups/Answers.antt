-- `reads::groups::Luma8x8::groups` meets its contract: what the filter adds to a 4x4 block's groups, and exact. Assumes nothing.
use Rattle.reads.proofs.Exactly.{exactly_8x8}
use Rattle.reads.proofs.groups.Luma8x8Predictor.groups.Goals as goal

pub returns : goal.returns
returns c = record { value = c.filtered.ensures c.groups.ensures.value; exactly = exactly_8x8 }
