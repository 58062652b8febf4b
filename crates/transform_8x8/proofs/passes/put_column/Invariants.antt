-- `transform_8x8::passes::put_column` meets its contract. The invariant: the first i numbers of the column are put. Assumes nothing.
use mathlib.Core.Path.{◌≡◌}
use mathlib.Core.List.{List}
use Prim.Native.Nat.{ℕ, ◌+◌, ◌*◌, ◌<◌, ◌≤◌}
use lib.IntN.{ℤ}
use lib.ListN.{length}
use Rattle.laws.specs.Range.{at}
use Rattle.residual.specs.Inverse.{rounded}
use Rattle.transform_8x8.specs.inner.ByColumn.{ByColumn}
use Rattle.transform_8x8.proofs.passes.put_column.Given as goal

abbrev pub invariant-loop-i : goal.invariant-loop-i
invariant-loop-i l = (l.i ≤ 8) × (length l.out ≡ length l.initial.out)
    × ((f : ℕ → ℤ) (old : List ℤ) → ((k : ℕ) → k < 8 → rounded (at l.fn.m k) ≡ f (8 * k + l.j)) → ByColumn f old (8 * l.j) l.initial.out → ByColumn f old (8 * l.j + l.i) l.out)
