-- `macroblock::squares::block_8x8` meets its contract: the block and its sides lie in the plane, the mode is not refused, and the sums are the definition's.
-- Assumes nothing.
use mathlib.Core.Path.{◌≡◌, sym, subst, ◌∙◌}
use Prim.Native.Nat.{◌+◌, ◌*◌}
use native.Mathlib.Omega.{arith}
use lib.ListN.{get_or, length}
use Rattle.laws.specs.Range.{at}
use Rattle.basics.specs.Marks.{permitted_nxn, mode_answer}
use Rattle.maps.specs.Neighbours.{marks_of}
use Rattle.cut.specs.Cut.{eight, sides_of}
use Rattle.cut.proofs.Scan.{scan_2}
use Rattle.cut.proofs.Sides.{sides_are}
use Rattle.macroblock.specs.Kinds.{pred_for, residual_l}
use Rattle.macroblock.specs.inner.Blocks.{StandsIn, luma_place}
use Rattle.macroblock.proofs.Drawn.{part_drawn}
use Rattle.macroblock.proofs.Sides.{stands_at}
use Rattle.macroblock.proofs.squares.block_8x8.Goals as goal
use Rattle.macroblock.proofs.squares.block_8x8.Goals.{After-sides_of-sides}

sides : (c : After-sides_of-sides) → let a = c.args in c.sides_of-sides.result ≡ sides_of 2 (marks_of a.spot.marks) a.k
sides c = c.sides_of-sides.ensures ∙ sides_are 2 c.args.k (marks_of c.args.spot.marks) (scan_2.x_lt c.args.k c.requires.1) (omega arith)

block : (c : After-sides_of-sides) → StandsIn 8 c.place_of-block.result (length c.args.plane.now) c.sides_of-sides.result
block c =
    let sides : let a = c.args in c.sides_of-sides.result ≡ sides_of 2 (marks_of a.spot.marks) a.k = c.sides_of-sides.ensures ∙ sides_are 2 c.args.k (marks_of c.args.spot.marks) (scan_2.x_lt c.args.k c.requires.1) (omega arith) in
    stands_at 8 2 c.args.k (marks_of c.args.spot.marks) scan_2 (omega arith) c.requires.1 c.requires.0.stands c.place_of-block.ensures (sides)

pub place_of-block-requires-clause-block_of : goal.place_of-block-requires-clause-block_of
place_of-block-requires-clause-block_of c = record { scan = scan_2; few = omega arith; one = c.requires.1 }

pub predict-requires-clause-stands_in : goal.predict-requires-clause-stands_in
predict-requires-clause-stands_in c = block (goal.at.predict-requires-clause-stands_in c).After-sides_of-sides

pub predict-requires-clause-mode_value : goal.predict-requires-clause-mode_value
predict-requires-clause-mode_value c = let a = c.args in
    subst (λ s. mode_answer 8 (permitted_nxn s.above s.left s.corner) (get_or a.modes.now a.k 0) ≡ 0) (sym (sides (goal.at.predict-requires-clause-mode_value c).After-sides_of-sides)) (c.requires.0.fine a.k c.requires.1)

pub put_8x8-requires-clause-block_in : goal.put_8x8-requires-clause-block_in
put_8x8-requires-clause-block_in c = (block (goal.at.put_8x8-requires-clause-block_in c).After-sides_of-sides).block

pub returns : goal.returns
returns c numbers T = let a = c.args in
    part_drawn eight (λ k. pred_for 1 (get_or a.modes.now k 0)) (residual_l 1 numbers) (luma_place a.spot) (marks_of a.spot.marks) a.k (omega arith) c.place_of-block.ensures (sides (goal.at.returns c).After-sides_of-sides)
    (λ x y. 0 + y * 8 + x) (λ x y. at a.residuals.list.now (64 * a.k + (8 * y + x))) a.plane.now c.predict.ensures (λ x y. omega arith)
    (λ x y hx hy. T.before a.k x y (omega (arith, c.requires.1)) hx hy) c.put_8x8.ensures
