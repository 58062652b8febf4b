-- `residual::inverse::flatten` meets its contract. The invariant: the first b blocks are put, and none of them is too high. Assumes nothing.
use mathlib.Core.Path.{◌≡◌}
use Prim.Native.Nat.{◌*◌, ◌/◌, ◌≤◌}
use lib.IntN.{pos}
use lib.Signed.{le_z}
use Rattle.laws.specs.Range.{at}
use Rattle.laws.specs.Table.{onto, all_below}
use Rattle.residual.specs.Inverse.{rounded}
use Rattle.residual.proofs.inverse.flatten.Given as goal

abbrev pub invariant-loop-b : goal.invariant-loop-b
invariant-loop-b l = (l.b ≤ 4) × (l.out ≡ onto (16 * l.b) (λ k. rounded (at l.d (k / 16 * 16))) l.initial.out) × (l.good ≡ all_below l.b (λ b. le_z (at l.d (16 * b)) (pos 32735)))
