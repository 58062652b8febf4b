-- `intra_nxn::run::Neighbours::along` meets its contract. After j turns the first j places are the line's. Assumes nothing.
use mathlib.Core.Path.{◌≡◌}
use Prim.Native.Nat.{ℕ, ◌+◌, ◌<◌}
use lib.ListN.{get_or}
use Rattle.intra_nxn.specs.inner.Run.{mean_in}
use Rattle.intra_nxn.proofs.run.Neighbours.along.Given as goal

abbrev pub invariant-loop-j : goal.invariant-loop-j
invariant-loop-j g l = (k : ℕ) → k < l.j → get_or l.x-items k 0 ≡ mean_in l.odd l.self.run (l.first + k)
