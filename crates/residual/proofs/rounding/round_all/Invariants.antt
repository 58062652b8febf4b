-- `residual::rounding::round_all` meets its contract. The invariant: the first k numbers are rounded. Assumes nothing.
use lib.IntN.{pos}
use lib.ListN.{length}
use Rattle.laws.specs.Range.{at}
use Rattle.laws.proofs.Tables.{Filled}
use Rattle.residual.specs.Inverse.{rounded}
use Rattle.residual.proofs.rounding.round_all.Given as goal

abbrev pub invariant-loop-k : goal.invariant-loop-k
invariant-loop-k l = Filled (pos 0) (λ k. rounded (at l.h k)) (length l.h) l.k l.out
