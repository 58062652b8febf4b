-- `reads::groups::Predictor::reads` meets its contract: the number of the set, which is exact. Assumes nothing.
use Rattle.std.proofs.Common.{ap, ◌∙◌}
use Rattle.reads.specs.Groups.{group_set}
use Rattle.reads.proofs.groups.Predictor.reads.Goals as goal

pub returns : goal.returns
returns g c = record { value = c.set_of.ensures ∙ ap group_set c.groups.ensures.value; exactly = c.groups.ensures.exactly }
