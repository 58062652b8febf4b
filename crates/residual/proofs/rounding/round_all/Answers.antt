-- `residual::rounding::round_all` meets its contract. The invariant: the first k numbers are rounded. Assumes nothing.
use native.Mathlib.Omega.{arith}
use lib.IntN.{pos}
use Rattle.laws.proofs.Ints.{within_back, within_more}
use Rattle.laws.proofs.Tables.{filled_more, filled_all}
use Rattle.residual.proofs.Transform.{column_at_lem}
use Rattle.residual.proofs.rounding.round_all.Goals as goal

pub round-requires : goal.round-requires
round-requires c = within_back 1782272 _ tt (within_more 524288 1782272 _ (c.requires.1.each c.loop-k.k) tt)

pub loop-k-preserved : goal.loop-k-preserved
loop-k-preserved c = filled_more (pos 0) _ _ _ _ _ (omega arith) c.loop-k.invariant (column_at_lem c.round.ensures (within_more 524288 2097088 _ (c.requires.1.each c.loop-k.k) tt))

pub returns : goal.returns
returns c = filled_all (pos 0) _ _ c.loop-k.k c.loop-k.out (omega arith) c.loop-k.invariant
