-- `macroblock::residuals::invert` meets its contract: where all blocks are in range, so are all numbers. Assumes nothing.
use mathlib.Core.Path.{◌≡◌, sym, ap, ◌∙◌}
use mathlib.Core.Bool.{true, cond}
use Prim.Native.Nat.{◌%◌}
use native.Mathlib.Omega.{arith}
use lib.ListN.{length}
use Rattle.laws.specs.Table.{blockwise, all_blocks}
use Rattle.residual.proofs.InQuads.{whole_blocks}
use Rattle.residual.proofs.Rooms.{blocks_numbers}
use Rattle.macroblock.proofs.residuals.invert.Goals as goal

pub returns-then-branch-clause-residuals : goal.returns-then-branch-clause-residuals
returns-then-branch-clause-residuals g c = let l = c.args.numbers.now in
    let T = g.T.Transform in
    let q = g.met.T.Transform.in_quads in
    let told : all_blocks T.size T.in_range l ≡ true = sym c.in_ok-inverse_blocks.ensures.in_range_value ∙ c.if-branch.true in
    let even : length l % 64 ≡ 0 = omega arith in
    c.in_ok-inverse_blocks.ensures.out_after
    ∙ ap (λ t. cond t (blockwise T.size T.inverse l) c.args.out.now)
    (blocks_numbers T.size T.in_range q.some q.numbers l (whole_blocks T.size q.blocks q.some q.whole l even) told)
