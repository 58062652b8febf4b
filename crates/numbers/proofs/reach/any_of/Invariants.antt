-- `numbers::reach::any_of` meets its contract. The invariant: the digits of the numbers passed are all 0 where each of them is. Assumes nothing.
use mathlib.Core.Path.{◌≡◌}
use mathlib.Core.Bool.{◌&&◌}
use Rattle.laws.specs.Range.{at}
use Rattle.laws.specs.Table.{all_below}
use Rattle.numbers.specs.Numbers.{is_zero}
use Rattle.numbers.proofs.reach.any_of.Given as goal

abbrev pub invariant-loop-v : goal.invariant-loop-v
invariant-loop-v l = is_zero l.any ≡ is_zero l.initial.any && all_below l.v-index (λ k. is_zero (at l.s k))
