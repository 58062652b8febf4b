-- `macroblock::put::put_16x16` meets its contract. The invariant: the first k quads are put; all of them make up the block. Assumes nothing.
use mathlib.Core.Path.{◌≡◌, sym, ap₂, ◌∙◌, subst}
use mathlib.Core.List.{List}
use Prim.Native.Nat.{ℕ, ◌+◌, ◌*◌, ◌/◌, ◌%◌, ◌<◌}
use native.Mathlib.Omega.{arith}
use lib.IntN.{ℤ, pos, ◌+ℤ◌}
use lib.ListN.{get_or, length}
use Rattle.laws.specs.Range.{at}
use Rattle.basics.specs.Clip.{Clip1}
use Rattle.basics.specs.Nnz.{blk_idx}
use Rattle.macroblock.specs.inner.Blocks.{BlockIn, sum_over, in_pieces}
use Rattle.macroblock.proofs.Quarters.{none_yet, same_long, one_more, all_put, AtQuarter, at_quarter}
use Rattle.macroblock.proofs.put.put_16x16.Invariants.{sums}
use Rattle.macroblock.proofs.put.put_16x16.Goals as goal
use Rattle.macroblock.proofs.put.put_16x16.Goals.{After-scan_y-v}

-- the piece that a sample lies in, in its quad and in the block
record Halves (x : ℕ) : Type 0 where
  quad : x / 8 % 2 ≡ x / 4 / 2
  no-quad : x / 8 / 2 ≡ 0
  piece : x % 8 / 4 % 2 ≡ x / 4 % 2
  no-piece : x % 8 / 4 / 2 ≡ 0
  rest : x % 8 % 4 ≡ x % 4

halves : (x : ℕ) → x < 16 → Halves x
halves x h = record { quad = omega arith; no-quad = omega arith; piece = omega arith; no-piece = omega arith; rest = omega arith }

-- sample (x, y) of the block, in the prediction and among the residuals
sum_is : (pred : List ℕ) (residuals : List ℤ) (x y : ℕ) → x < 16 → y < 16
    → sums pred residuals (blk_idx (x / 8) (y / 8)) (x / 8) (y / 8) (x % 8) (y % 8) ≡ sum_over pred 0 16 (in_pieces residuals 0) x y
sum_is pred residuals x y hx hy =
    let e : y / 8 * 128 + x / 8 * 8 + y % 8 * 16 + x % 8 ≡ 0 + y * 16 + x = omega arith in
    let a = halves x hx in
    let b = halves y hy in
    ap₂ (λ n i. Clip1 (pos (get_or pred n 0) +ℤ at residuals i)) e
    ((λ j. 16 * (4 * (a.quad j + b.quad j * 2 + a.no-quad j * 4 + b.no-quad j * 8) + (a.piece j + b.piece j * 2 + a.no-piece j * 4 + b.no-piece j * 8)) + (4 * b.rest j + a.rest j))
    ∙ sorted (x / 4 / 2) (y / 4 / 2) (x / 4 % 2) (y / 4 % 2) (4 * (y % 4) + x % 4))
  where
    sorted : (a b c d r : ℕ) → 16 * (4 * (a + b * 2 + 0 * 4 + 0 * 8) + (c + d * 2 + 0 * 4 + 0 * 8)) + r ≡ 16 * (0 + (c + d * 2 + a * 4 + b * 8)) + r
    sorted a b c d r = omega arith

here : (c : After-scan_y-v) → let a = c.args in
    AtQuarter 8 a.place (length a.plane.now) c.scan_x-u.result c.scan_y-v.result
here c = at_quarter (omega arith) (omega arith) c.requires c.scan_x-u.ensures c.scan_y-v.ensures

pub put_quad-requires : goal.put_quad-requires
put_quad-requires c = let h = here (goal.at.put_quad-requires c).After-scan_y-v in record {
  block_in = (subst (BlockIn 8 _) (sym (same_long c.loop-k.invariant)) h.block, record { inside = omega (arith, h.across, h.down) });
  q_bound = omega arith;
}

pub loop-k-preserved : goal.loop-k-preserved
loop-k-preserved c = one_more c.loop-k.invariant (omega arith) c.scan_x-u.ensures c.scan_y-v.ensures c.put_quad.ensures

pub loop-k-init : goal.loop-k-init
loop-k-init c = none_yet

pub returns : goal.returns
returns c = let a = c.args in
    let l = a.residuals.list.now in
    all_put c.loop-k.invariant (sum_over a.pred.now 0 16 (in_pieces l 0)) (omega arith) (omega arith) c.requires (sum_is a.pred.now l)

pub overflow_add-quad : goal.overflow_add-quad
overflow_add-quad c = let h = here (goal.at.overflow_add-quad c).After-scan_y-v in omega (arith, h.line, h.down)

pub overflow_add-quad-in-loop-k : goal.overflow_add-quad-in-loop-k
overflow_add-quad-in-loop-k c = let h = here (goal.at.overflow_add-quad-in-loop-k c).After-scan_y-v in omega (arith, h.block.wide, h.block.short)

pub overflow_mul-from : goal.overflow_mul-from
overflow_mul-from c = let h = here (goal.at.overflow_mul-from c).After-scan_y-v in omega (arith, h.down)

pub overflow_mul-from-in-loop-k : goal.overflow_mul-from-in-loop-k
overflow_mul-from-in-loop-k c = let h = here (goal.at.overflow_mul-from-in-loop-k c).After-scan_y-v in omega (arith, h.across)

pub overflow_add-from : goal.overflow_add-from
overflow_add-from c = let h = here (goal.at.overflow_add-from c).After-scan_y-v in omega (arith, h.down, h.across)
