-- `residual::passes::rows` meets its contract. The invariant: the first i rows are put. Assumes nothing.
use mathlib.Core.Path.{◌≡◌}
use Prim.Native.Nat.{◌*◌, ◌≤◌}
use Rattle.laws.specs.Table.{onto}
use Rattle.residual.specs.inner.Passes.{row_at}
use Rattle.residual.proofs.passes.rows.Given as goal

abbrev pub invariant-loop-i : goal.invariant-loop-i
invariant-loop-i l = (l.i ≤ l.i-end) × (l.f ≡ onto (4 * l.i) (row_at l.d) l.initial.f)
