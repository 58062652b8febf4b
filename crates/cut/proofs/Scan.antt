-- The scan of 1, 4 and 16 blocks: places and numbers answer one another, and the blocks to the left and above come first. The first by computing both at
-- each block, the second since blk_idx grows with the place. Assumes nothing.
use mathlib.Core.Path.{◌≡◌}
use mathlib.Core.Bool.{Bool, ◌&&◌}
use Prim.Native.Nat.{ℕ, ◌*◌, ◌-◌, ◌<◌, ◌≤◌}
use native.Mathlib.Nat.{mul-le-mul}
use native.Mathlib.Omega.{arith}
use lib.Dec.{T, ltb, eqb, eqb→eq, ltb→lt}
use Rattle.laws.specs.Table.{all_below}
use Rattle.laws.proofs.Tests.{below, both_left, both_right}
use Rattle.basics.specs.Nnz.{blk_idx}
use Rattle.cut.specs.Cut.{scan_x, scan_y}
use Rattle.cut.specs.inner.Blocks.{Scan}

module _ (m : ℕ) where
  abbrev by_number : ℕ → Bool
  by_number k = ltb (scan_x k) m && (ltb (scan_y k) m && eqb (blk_idx (scan_x k) (scan_y k)) k)

  abbrev by_place : ℕ → ℕ → Bool
  by_place x y = eqb (scan_x (blk_idx x y)) x && (eqb (scan_y (blk_idx x y)) y && ltb (blk_idx x y) (m * m))

  scan : 0 < m → T (all_below (m * m) by_number) → T (all_below m (λ x. all_below m (by_place x))) → Scan m
  scan h t u = record {
    some = h;
    x_lt = λ k l. ltb→lt (scan_x k) m (both_left (ltb (scan_x k) m) _ (number k l));
    y_lt = λ k l. ltb→lt (scan_y k) m (both_left (ltb (scan_y k) m) _ (both_right (ltb (scan_x k) m) _ (number k l)));
    of = λ k l. eqb→eq _ k (both_right (ltb (scan_y k) m) _ (both_right (ltb (scan_x k) m) _ (number k l)));
    of_x = λ x y lx ly. eqb→eq _ x (both_left (eqb (scan_x (blk_idx x y)) x) _ (place x y lx ly));
    of_y = λ x y lx ly. eqb→eq _ y (both_left (eqb (scan_y (blk_idx x y)) y) _ (both_right (eqb (scan_x (blk_idx x y)) x) _ (place x y lx ly)));
    of_lt = λ x y lx ly. ltb→lt (blk_idx x y) (m * m) (both_right (eqb (scan_y (blk_idx x y)) y) _ (both_right (eqb (scan_x (blk_idx x y)) x) _ (place x y lx ly)));
  }
    where
      number : (k : ℕ) → k < m * m → T (by_number k)
      number k l = below (m * m) by_number t k l

      place : (x y : ℕ) → x < m → y < m → T (by_place x y)
      place x y lx ly = below m (by_place x) (below m (λ x. all_below m (by_place x)) u x lx) y ly

pub scan_1 : Scan 1
unfolding all_below scan_x scan_y
scan_1 = scan 1 (omega arith) tt tt

pub scan_2 : Scan 2
unfolding all_below scan_x scan_y
scan_2 = scan 2 (omega arith) tt tt

pub scan_4 : Scan 4
unfolding all_below scan_x scan_y
scan_4 = scan 4 (omega arith) tt tt

-- whatever the number, there are four columns, and place and number answer one another
pub in_four : (k : ℕ) → scan_x k < 4
unfolding scan_x
in_four k = omega arith

pub number_is : (k : ℕ) → blk_idx (scan_x k) (scan_y k) ≡ k
unfolding scan_x scan_y
number_is k = omega arith

-- the block to the left, the one above and the one above and to the left come first
pub left_first : (u v k : ℕ) → 0 < u → blk_idx u v ≡ k → blk_idx (u - 1) v < k
left_first u v k h e = omega arith

pub above_first : (u v k : ℕ) → 0 < v → blk_idx u v ≡ k → blk_idx u (v - 1) < k
above_first u v k h e = omega arith

pub corner_first : (u v k : ℕ) → 0 < u → 0 < v → blk_idx u v ≡ k → blk_idx (u - 1) (v - 1) < k
corner_first u v k hu hv e = omega arith

-- sixteen blocks at most
pub few_blocks : (k m : ℕ) → k < m * m → m ≤ 4 → k < 16
few_blocks k m h l = omega (arith, mul-le-mul l l)
