-- `intra_nxn::run::Neighbours::down_line` meets its contract. The first loop puts two places a turn, the second one. Assumes nothing.
use mathlib.Core.Path.{◌≡◌}
use Prim.Native.Nat.{ℕ, ◌+◌, ◌*◌, ◌-◌, ◌<◌}
use lib.ListN.{get_or}
use Rattle.intra_nxn.specs.inner.Run.{Line, mean_round, mean_from, pairs}
use Rattle.intra_nxn.proofs.run.Neighbours.down_line.Given as goal

abbrev pub invariant-loop-i : goal.invariant-loop-i
invariant-loop-i g l = let n = g.row.N in
    Line (2 * l.i) (pairs (2 * n) (λ i. mean_from l.self.run (9 - n + i)) (λ i. mean_round l.self.run (10 - n + i)) (λ j. mean_round l.self.run (10 + j - 2 * n))) l.line

abbrev pub invariant-loop-j : goal.invariant-loop-j
invariant-loop-j g l = (k : ℕ) → k < l.j → get_or l.x-items k 0 ≡ mean_round l.self.run (10 + k)
