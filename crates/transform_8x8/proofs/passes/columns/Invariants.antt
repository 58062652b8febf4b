-- `transform_8x8::passes::columns` meets its contract. The invariant: the first j columns are put, and the reach tells of them. Assumes nothing.
use mathlib.Core.Path.{◌≡◌}
use mathlib.Core.Bool.{◌&&◌}
use Prim.Native.Nat.{◌*◌, ◌≤◌}
use Rattle.laws.specs.Table.{all_below}
use Rattle.numbers.specs.Numbers.{held}
use Rattle.transform_8x8.specs.inner.ByColumn.{ByColumn, column_at}
use Rattle.transform_8x8.specs.inner.Told.{column_told}
use Rattle.transform_8x8.proofs.passes.columns.Given as goal

abbrev pub invariant-loop-j : goal.invariant-loop-j
invariant-loop-j l = (l.j ≤ 8) × ByColumn (column_at l.g) l.initial.out (8 * l.j) l.out × (held l.reach ≡ held l.x && all_below l.j (column_told l.g))
