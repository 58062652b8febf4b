-- `samples::line::down` meets its contract. After y turns the first y rows are put, each through its own part of the block. Assumes nothing.
use mathlib.Core.Path.{◌≡◌}
use Prim.Native.Nat.{◌*◌, ◌%◌}
use Rattle.laws.specs.Table.{onto}
use Rattle.samples.specs.inner.Line.{sample}
use Rattle.samples.proofs.line.down.Given as goal

abbrev pub invariant-loop-y : goal.invariant-loop-y
invariant-loop-y g l = l.out ≡ onto (l.y * g.row.N) (λ k. sample l.fn.top (k % g.row.N)) l.initial.out
