-- `reads::groups::Chroma8x8::groups` meets its contract: permitted, named and there, and exact. Assumes nothing.
use Rattle.std.proofs.Common.{refl, ◌∙◌}
use Rattle.reads.specs.Groups.{groups_of}
use Rattle.reads.proofs.Exactly.{exactly_chroma}
use Rattle.reads.proofs.Tables.{groups_are, read_same}
use Rattle.reads.proofs.groups.Chroma8x8Predictor.groups.Goals as goal

pub returns : goal.returns
returns c = record {
  value = c.read_of.ensures ∙ read_same (groups_of c.args.sides) c.permits_chroma-permitted.ensures (groups_are refl refl refl refl);
  exactly = exactly_chroma;
}
