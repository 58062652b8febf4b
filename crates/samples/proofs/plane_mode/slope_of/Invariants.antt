-- `samples::plane_mode::slope_of` meets its contract. The invariant: h is the sum so far, which is at most 4080 for each term.
-- Assumes nothing.
use mathlib.Core.Path.{◌≡◌}
use Prim.Native.Nat.{◌-◌, ◌*◌, ◌≤◌}
use lib.IntN.{nat_abs}
use lib.ListN.{get_or}
use Rattle.laws.specs.Table.{sum_z}
use Rattle.samples.proofs.PlaneMode.{term_of}
use Rattle.samples.proofs.plane_mode.slope_of.Given as goal

abbrev pub invariant-loop-i : goal.invariant-loop-i
invariant-loop-i l = (l.i ≤ l.m) × (l.h ≡ sum_z l.i (term_of l.m (λ k. get_or l.e k 0))) × (nat_abs (sum_z l.i (term_of l.m (λ k. get_or l.e k 0))) ≤ 4080 * l.i)

abbrev pub decreases-loop-i : goal.decreases-loop-i
decreases-loop-i l = l.m - l.i
