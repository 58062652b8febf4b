-- `numbers::reach::reach` meets its contract. The invariant: the reach tells of the numbers passed. Assumes nothing.
use mathlib.Core.Path.{◌≡◌}
use mathlib.Core.Bool.{◌&&◌}
use Prim.Native.Nat.{ℕ, ◌^◌}
use lib.Dec.{ltb}
use Rattle.laws.specs.Range.{at}
use Rattle.laws.specs.Table.{all_below}
use Rattle.numbers.specs.Numbers.{mag_and}
use Rattle.numbers.proofs.reach.reach.Given as goal

abbrev pub invariant-loop-v : goal.invariant-loop-v
invariant-loop-v g l = (k : ℕ) → ltb l.reach (2 ^ k) ≡ ltb l.initial.reach (2 ^ k) && all_below l.v-index (λ j. ltb (mag_and g.row.MORE (at l.s j)) (2 ^ k))
