-- `intra_nxn::run::Neighbours::means` meets its contract: after i turns the first i means are there. Assumes nothing.
use mathlib.Core.Path.{◌≡◌}
use Prim.Native.Nat.{ℕ, ◌+◌, ◌<◌}
use lib.ListN.{get_or}
use Rattle.intra_nxn.specs.inner.Run.{mean_round}
use Rattle.intra_nxn.proofs.run.Neighbours.means.Given as goal

abbrev pub invariant-loop-i : goal.invariant-loop-i
invariant-loop-i g l = (k : ℕ) → k < l.i → get_or l.x-items k 0 ≡ mean_round l.self.run (1 + k)
