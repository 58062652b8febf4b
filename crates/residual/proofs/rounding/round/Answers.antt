-- `residual::rounding::round` meets its contract: a number of the second pass, rounded, has sixteen bits. Assumes nothing.
use Rattle.laws.proofs.Ints.{ints, within_more}
use Rattle.residual.proofs.Transform.{round_short}
use Rattle.residual.proofs.rounding.round.Goals as goal

pub overflow_cast-result : goal.overflow_cast-result
overflow_cast-result c = (round_short c.args.h (within_more 1782272 2097088 c.args.h c.requires tt)).0

pub returns : goal.returns
returns c = (round_short c.args.h (within_more 1782272 2097088 c.args.h c.requires tt)).1

pub overflow_add-result : goal.overflow_add-result
overflow_add-result c = search ints depth 20
