-- `macroblock::squares::block_4x4` meets its contract: the block and its sides lie in the plane, the mode is not refused, and the sums are the definition's.
-- Assumes nothing.
use mathlib.Core.Path.{◌≡◌, ◌∙◌}
use Prim.Native.Nat.{◌+◌, ◌*◌}
use native.Mathlib.Omega.{arith}
use lib.ListN.{get_or, length}
use Rattle.maps.specs.Neighbours.{marks_of}
use Rattle.cut.specs.Cut.{four, sides_of}
use Rattle.cut.proofs.Scan.{scan_4}
use Rattle.cut.proofs.Sides.{sides_are}
use Rattle.macroblock.specs.Kinds.{pred_for, residual_l}
use Rattle.macroblock.specs.inner.Blocks.{StandsIn, in_piece, luma_place}
use Rattle.macroblock.proofs.Drawn.{part_drawn}
use Rattle.macroblock.proofs.Sides.{stands_at}
use Rattle.macroblock.proofs.squares.block_4x4.Goals as goal
use Rattle.macroblock.proofs.squares.block_4x4.Goals.{After-sides_of-sides}

sides : (c : After-sides_of-sides) → let a = c.args in c.sides_of-sides.result ≡ sides_of 4 (marks_of a.spot.marks) a.k
sides c = c.sides_of-sides.ensures ∙ sides_are 4 c.args.k (marks_of c.args.spot.marks) (scan_4.x_lt c.args.k c.requires.1) (omega arith)

block : (c : After-sides_of-sides) → StandsIn 4 c.place_of-block.result (length c.args.plane.now) c.sides_of-sides.result
block c =
    let sides : let a = c.args in c.sides_of-sides.result ≡ sides_of 4 (marks_of a.spot.marks) a.k = c.sides_of-sides.ensures ∙ sides_are 4 c.args.k (marks_of c.args.spot.marks) (scan_4.x_lt c.args.k c.requires.1) (omega arith) in
    stands_at 4 4 c.args.k (marks_of c.args.spot.marks) scan_4 (omega arith) c.requires.1 c.requires.0.stands c.place_of-block.ensures (sides)

pub place_of-block-requires-clause-block_of : goal.place_of-block-requires-clause-block_of
place_of-block-requires-clause-block_of c = record { scan = scan_4; few = omega arith; one = c.requires.1 }

pub predict-requires-clause-stands_in : goal.predict-requires-clause-stands_in
predict-requires-clause-stands_in c = block (goal.at.predict-requires-clause-stands_in c).After-sides_of-sides

pub put_4x4-requires-clause-block_in : goal.put_4x4-requires-clause-block_in
put_4x4-requires-clause-block_in c = (block (goal.at.put_4x4-requires-clause-block_in c).After-sides_of-sides).block

pub returns : goal.returns
returns c numbers T = let a = c.args in
    part_drawn four (λ k. pred_for 0 (get_or a.modes.now k 0)) (residual_l 0 numbers) (luma_place a.spot) (marks_of a.spot.marks) a.k (omega arith) c.place_of-block.ensures (sides (goal.at.returns c).After-sides_of-sides)
    (λ x y. 0 + y * 4 + x) (in_piece a.residuals.list.now a.k) a.plane.now c.predict.ensures (λ x y. omega arith)
    (λ x y. T.after a.k x y (omega arith) (omega (arith, c.requires.1))) c.put_4x4.ensures
