-- `transform_8x8::rows::put_row` meets its contract. The invariant: the first j numbers of the row are put. Assumes nothing.
use mathlib.Core.Path.{◌≡◌}
use mathlib.Core.List.{List}
use Prim.Native.Nat.{ℕ, ◌+◌, ◌*◌, ◌-◌, ◌<◌, ◌≤◌}
use lib.IntN.{ℤ}
use lib.ListN.{length}
use Rattle.laws.specs.Range.{at}
use Rattle.laws.specs.Table.{onto}
use Rattle.transform_8x8.proofs.rows.put_row.Given as goal

abbrev pub invariant-loop-j : goal.invariant-loop-j
invariant-loop-j l = (l.j ≤ 8) × (length l.g ≡ 64)
    × ((f : ℕ → ℤ) (old : List ℤ) → length old ≡ 64 → ((k : ℕ) → k < 8 → at l.v k ≡ f (8 * l.i + k)) → l.initial.g ≡ onto (8 * l.i) f old → l.g ≡ onto (8 * l.i + l.j) f old)

abbrev pub decreases-loop-j : goal.decreases-loop-j
decreases-loop-j l = 8 - l.j
