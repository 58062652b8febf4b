-- `transform_8x8::passes::rows` meets its contract. The invariant: the first i rows are put, and the reach tells of them. Assumes nothing.
use mathlib.Core.Path.{◌≡◌}
use Prim.Native.Nat.{◌*◌, ◌≤◌}
use Rattle.laws.specs.Table.{onto, all_below}
use Rattle.numbers.specs.Numbers.{held}
use Rattle.transform_8x8.specs.inner.ByColumn.{row_at}
use Rattle.transform_8x8.specs.inner.Told.{row_told}
use Rattle.transform_8x8.proofs.passes.rows.Given as goal

abbrev pub invariant-loop-i : goal.invariant-loop-i
invariant-loop-i l = (l.i ≤ 8) × (l.g ≡ onto (8 * l.i) (row_at l.d) l.initial.g) × (held l.reach ≡ all_below l.i (row_told l.d))
