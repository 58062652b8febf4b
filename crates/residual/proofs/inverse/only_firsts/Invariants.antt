-- `residual::inverse::only_firsts` meets its contract. The invariant: where none of the numbers passed is other than 0, those of the first b blocks are 0.
-- Assumes nothing.
use mathlib.Core.Path.{◌≡◌}
use mathlib.Core.Bool.{true}
use Prim.Native.Nat.{ℕ, ◌+◌, ◌*◌, ◌≤◌, ◌<◌}
use lib.IntN.{pos}
use Rattle.laws.specs.Range.{at}
use Rattle.numbers.specs.Numbers.{is_zero}
use Rattle.residual.proofs.inverse.only_firsts.Given as goal

abbrev pub invariant-loop-b : goal.invariant-loop-b
invariant-loop-b l = (l.b ≤ 4) × (is_zero l.any ≡ true → (c i : ℕ) → c < l.b → 0 < i → i < 16 → at l.d (16 * c + i) ≡ pos 0)
