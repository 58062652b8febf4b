-- `residual::blocks::mark_quads` meets its contract. The invariant: the first q quads are marked, and it is told whether their numbers are in range.
-- Assumes nothing.
use mathlib.Core.Path.{◌≡◌}
use Prim.Native.Nat.{◌+◌, ◌*◌, ◌≤◌}
use Rattle.laws.specs.Range.{at}
use Rattle.laws.specs.Table.{all_below}
use Rattle.laws.proofs.Tables.{Filled}
use Rattle.numbers.specs.Numbers.{in_range}
use Rattle.residual.specs.Quads.{coded_quad}
use Rattle.residual.proofs.blocks.mark_quads.Given as goal

abbrev pub invariant-loop-q : goal.invariant-loop-q
invariant-loop-q l = (l.q ≤ l.q-end) × Filled 0 (coded_quad l.list) l.q-end l.q l.coded × (l.good ≡ all_below l.q (λ q. all_below 64 (λ k. in_range (at l.list (64 * q + k)))))
