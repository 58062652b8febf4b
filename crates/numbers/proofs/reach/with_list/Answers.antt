-- `numbers::reach::with_list` meets its contract: the reach without more. Assumes nothing.
use mathlib.Core.Path.{ap, ◌∙◌}
use mathlib.Core.Bool.{◌&&◌}
use Prim.Native.Nat.{◌^◌}
use lib.Dec.{ltb}
use Rattle.numbers.proofs.Far.{near_alone}
use Rattle.numbers.proofs.reach.with_list.Goals as goal

pub returns : goal.returns
returns c = λ k. c.reach.ensures k ∙ ap (λ t. ltb c.args.x (2 ^ k) && t) (near_alone k c.args.s.now)
