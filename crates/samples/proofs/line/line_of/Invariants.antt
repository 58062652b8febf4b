-- `samples::line::line_of` meets its contract. The corner is put first; after i turns the i places after it are the side's. Assumes nothing.
use mathlib.Core.Path.{◌≡◌}
use Prim.Native.Nat.{◌+◌}
use lib.ListN.{replicate}
use Rattle.laws.specs.Table.{onto}
use Rattle.samples.specs.inner.Line.{sample, line}
use Rattle.samples.proofs.line.line_of.Given as goal

abbrev pub invariant-loop-i : goal.invariant-loop-i
invariant-loop-i l = l.e ≡ onto (l.i + 1) (line l.corner (sample l.side)) (replicate 17 0)
