-- `numbers::range::widen_all` meets its contract. The invariant: the first k numbers are copied. Assumes nothing.
use lib.IntN.{pos}
use lib.ListN.{length}
use Rattle.laws.specs.Range.{at}
use Rattle.laws.proofs.Tables.{Filled}
use Rattle.numbers.proofs.range.widen_all.Given as goal

abbrev pub invariant-loop-k : goal.invariant-loop-k
invariant-loop-k l = Filled (pos 0) (at l.list) (length l.list) l.k l.out
