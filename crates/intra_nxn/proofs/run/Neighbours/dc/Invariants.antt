-- `intra_nxn::run::Neighbours::dc` meets its contract: as far as the loop's counter, the sums are those of the run's samples, each below 256. Assumes nothing.
use mathlib.Core.Path.{◌≡◌}
use Prim.Native.Nat.{◌+◌, ◌-◌, ◌*◌, ◌≤◌}
use lib.ListN.{get_or}
use Rattle.laws.specs.Table.{sum_of}
use Rattle.intra_nxn.proofs.run.Neighbours.dc.Given as goal

abbrev pub invariant-loop-i : goal.invariant-loop-i
invariant-loop-i g l = (l.sum_above ≡ sum_of l.i (λ x. get_or l.self.run (11 + x) 0)) × (l.sum_left ≡ sum_of l.i (λ y. get_or l.self.run (9 - y) 0))
    × (l.sum_above ≤ 255 * l.i) × (l.sum_left ≤ 255 * l.i)
