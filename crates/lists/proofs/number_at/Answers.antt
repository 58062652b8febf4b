use Rattle.std.proofs.Common.{arith}
use Rattle.std.proofs.lemmas.Grind.{common_steps}
use Rattle.lists.specs.Numbers.{number_at}
use Rattle.lists.proofs.number_at.Goals as goal

pub returns-then-k-c : goal.returns-then-k-c
unfolding number_at
returns-then-k-c c = grind (arith, common_steps)

pub returns-else-k-c : goal.returns-else-k-c
unfolding number_at
returns-else-k-c c = grind (arith, common_steps)
