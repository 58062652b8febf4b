-- `samples::line::Line::sum` meets its contract. After i turns s is the sum of i samples. Assumes nothing.
use mathlib.Core.Path.{◌≡◌}
use Prim.Native.Nat.{◌+◌, ◌*◌, ◌≤◌}
use Rattle.laws.specs.Table.{sum_of}
use Rattle.samples.specs.inner.Line.{sample}
use Rattle.samples.proofs.line.Line.sum.Given as goal

abbrev pub invariant-loop-i : goal.invariant-loop-i
invariant-loop-i l = (l.s ≡ sum_of l.i (λ k. sample l.self (l.from + k))) × (l.s ≤ 255 * l.i)
