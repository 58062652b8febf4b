-- `intra_nxn::run::Neighbours::up_line` meets its contract. The last sample stands all along; after i turns the first 2i places are the means.
-- Assumes nothing.
use mathlib.Core.Path.{◌≡◌}
use Prim.Native.Nat.{ℕ, ◌*◌, ◌-◌, ◌≤◌, ◌<◌}
use lib.ListN.{get_or}
use Rattle.intra_nxn.specs.inner.Run.{Line, mean_round, mean_from, pairs}
use Rattle.intra_nxn.proofs.run.Neighbours.up_line.Given as goal

abbrev pub invariant-loop-i : goal.invariant-loop-i
invariant-loop-i g l = let n = g.row.N in
    Line (2 * l.i) (pairs (2 * n - 2) (λ k. mean_from l.self.run (7 - k)) (λ k. mean_round l.self.run (7 - k)) (λ _. get_or l.self.run (10 - n) 0)) l.line
    × ((k : ℕ) → 2 * n - 2 ≤ k → k < 32 → get_or l.line k 0 ≡ get_or l.self.run (10 - n) 0)
