-- `residual::passes::columns` meets its contract. The invariant: the first i rows are put. Assumes nothing.
use mathlib.Core.Path.{◌≡◌}
use Prim.Native.Nat.{◌*◌, ◌≤◌}
use Rattle.laws.specs.Range.{at}
use Rattle.laws.specs.Table.{onto}
use Rattle.residual.specs.inner.Passes.{columns_of}
use Rattle.residual.proofs.passes.columns.Given as goal

abbrev pub invariant-loop-i : goal.invariant-loop-i
invariant-loop-i l = (l.i ≤ 4) × (l.h ≡ onto (4 * l.i) (at (columns_of l.f)) l.initial.h)
