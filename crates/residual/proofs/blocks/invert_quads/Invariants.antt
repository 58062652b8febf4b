-- `residual::blocks::invert_quads` meets its contract. The invariant: the first q quads are put, and it is told whether their blocks are in range.
-- Assumes nothing.
use mathlib.Core.Path.{◌≡◌}
use Prim.Native.Nat.{◌*◌}
use Rattle.laws.specs.Table.{onto, all_below}
use Rattle.laws.proofs.Blockwise.{block_at, test_at}
use Rattle.residual.proofs.InQuads.{quad_of, quad_told}
use Rattle.residual.proofs.blocks.invert_quads.Given as goal

abbrev pub invariant-loop-q : goal.invariant-loop-q
invariant-loop-q g l = let t = g.T.Transform in
    (l.out ≡ onto (64 * l.q) (block_at 64 (quad_of t.size t.inverse) l.list) l.initial.out) × (l.good ≡ all_below l.q (test_at 64 (quad_told t.size t.in_range) l.list))
