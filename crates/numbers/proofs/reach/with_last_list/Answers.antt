-- `numbers::reach::with_last_list` meets its contract: the reach with 32 more. Assumes nothing.
use mathlib.Core.Path.{ap, ◌∙◌}
use mathlib.Core.Bool.{◌&&◌}
use Rattle.numbers.specs.Numbers.{held}
use Rattle.numbers.proofs.Far.{last_each}
use Rattle.numbers.proofs.reach.with_last_list.Goals as goal

pub returns : goal.returns
returns c = c.reach.ensures 15 ∙ ap (λ t. held c.args.x && t) (last_each c.args.s.now)
