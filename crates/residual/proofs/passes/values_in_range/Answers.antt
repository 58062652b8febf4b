-- `residual::passes::values_in_range` meets its contract: the reach tells of both lists. Assumes nothing.
use mathlib.Core.Path.{ap, ◌∙◌}
use mathlib.Core.Bool.{◌&&◌}
use Rattle.numbers.specs.Numbers.{all_of, last_in_range}
use Rattle.numbers.proofs.Far.{near_all}
use Rattle.residual.proofs.passes.values_in_range.Goals as goal

pub returns : goal.returns
returns c = c.with_last_list.ensures ∙ ap (λ t. t && all_of last_in_range c.args.h.now) (c.with_list.ensures 15 ∙ near_all c.args.f.now)
