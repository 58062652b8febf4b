-- `numbers::range::all_in_range` meets its contract: the reach tells of all numbers. Assumes nothing.
use mathlib.Core.Path.{◌∙◌}
use Rattle.numbers.proofs.Far.{near_all}
use Rattle.numbers.proofs.range.all_in_range.Goals as goal

pub returns : goal.returns
returns c = c.with_list.ensures 15 ∙ near_all c.args.s.now
