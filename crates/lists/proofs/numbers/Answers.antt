use Rattle.std.proofs.Common.{arith, pos}
use Rattle.laws.proofs.Tables.{filled_all}
use Rattle.lists.proofs.numbers.Goals as goal

pub returns : goal.returns
returns c = filled_all (pos 0) _ _ _ _ (omega arith) c.loop-k.invariant
