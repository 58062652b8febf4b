-- `samples::intra_chroma::spread` meets its contract. After y turns the first y rows are put, each in two halves. Assumes nothing.
use mathlib.Core.Path.{◌≡◌}
use Prim.Native.Nat.{◌+◌, ◌*◌, ◌/◌, ◌%◌}
use lib.ListN.{get_or}
use Rattle.laws.specs.Table.{onto}
use Rattle.samples.proofs.intra_chroma.spread.Given as goal

abbrev pub invariant-loop-y : goal.invariant-loop-y
invariant-loop-y l = l.out ≡ onto (8 * l.y) (λ k. get_or l.d (k / 32 * 2 + k % 8 / 4) 0) l.initial.out
