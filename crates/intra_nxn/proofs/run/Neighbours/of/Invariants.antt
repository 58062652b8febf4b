-- `intra_nxn::run::Neighbours::of` meets its contract: the samples to the left are laid, then those above, the last ones once more and the corner.
-- Assumes nothing.
use mathlib.Core.Path.{◌≡◌}
use Prim.Native.Nat.{ℕ, ◌+◌, ◌-◌, ◌<◌}
use lib.ListN.{get_or, length}
use Rattle.intra_nxn.proofs.run.Neighbours.of.Given as goal

abbrev pub invariant-loop-k : goal.invariant-loop-k
invariant-loop-k g l = (length l.run ≡ 32) × ((m : ℕ) → m < l.k → get_or l.run (9 - m) 0 ≡ get_or l.left m 0)

abbrev pub invariant-loop-k-2 : goal.invariant-loop-k-2
invariant-loop-k-2 g l = (length l.run ≡ 32) × ((m : ℕ) → m < g.row.N → get_or l.run (9 - m) 0 ≡ get_or l.left m 0)
    × ((m : ℕ) → m < l.k → get_or l.run (11 + m) 0 ≡ get_or l.above m 0)
