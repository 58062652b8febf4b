-- The first k numbers are those of the bytes.
use Rattle.std.proofs.Common.{length, pos}
use Rattle.laws.proofs.Tables.{Filled}
use Rattle.lists.specs.Numbers.{number_at}
use Rattle.lists.proofs.numbers.Given as goal

abbrev pub invariant-loop-k : goal.invariant-loop-k
invariant-loop-k l = Filled (pos 0) (number_at l.c) (length l.initial.out) l.k l.out
