-- `reads::groups::Luma4x4::groups` meets its contract: permitted, named and there, and exact. Assumes nothing.
use Rattle.std.proofs.Common.{◌∙◌}
use Rattle.reads.specs.Groups.{groups_of}
use Rattle.reads.proofs.Exactly.{exactly_4x4}
use Rattle.reads.proofs.Tables.{read_same}
use Rattle.reads.proofs.groups.Luma4x4Predictor.groups.Goals as goal

pub returns : goal.returns
returns c = record {
  value = c.read_of.ensures ∙ read_same (groups_of c.args.sides) c.permits_nxn-permitted.ensures c.named_nxn.ensures;
  exactly = exactly_4x4;
}
