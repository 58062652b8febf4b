-- `macroblock::squares::block_16x16` meets its contract: the mode is not refused, and the sums are the definition's. Assumes nothing.
use mathlib.Core.Path.{◌≡◌, sym, subst, ◌∙◌}
use Prim.Native.Nat.{◌+◌, ◌*◌}
use native.Mathlib.Omega.{arith}
use lib.ListN.{get_or}
use Rattle.basics.specs.Marks.{permitted16x16, mode_answer}
use Rattle.maps.specs.Neighbours.{marks_of}
use Rattle.cut.specs.Cut.{whole}
use Rattle.cut.proofs.Scan.{scan_4}
use Rattle.macroblock.specs.Kinds.{pred_for, residual_l}
use Rattle.macroblock.specs.inner.Blocks.{in_pieces, luma_place}
use Rattle.macroblock.proofs.Drawn.{part_drawn, whole_sides, whole_place}
use Rattle.macroblock.proofs.Sums.{pieces_transformed}
use Rattle.macroblock.proofs.squares.block_16x16.Goals as goal

pub predict-requires-clause-mode_value : goal.predict-requires-clause-mode_value
predict-requires-clause-mode_value c = let a = c.args in
    let e = sym c.square_sides-sides.ensures in subst (λ c. mode_answer 3 (permitted16x16 c.above c.left c.corner) (get_or a.modes.now 0 0) ≡ 0) (sym (whole_sides (marks_of a.spot.marks)) ∙ e) (c.requires.fine 0 (omega arith))

pub returns : goal.returns
returns c numbers T = let a = c.args in
    part_drawn (whole 16) (λ k. pred_for 2 (get_or a.modes.now k 0)) (residual_l 2 numbers) (luma_place a.spot) (marks_of a.spot.marks) 0 (omega arith) (whole_place (luma_place a.spot)) (c.square_sides-sides.ensures ∙ whole_sides (marks_of a.spot.marks))
    (λ x y. 0 + y * 16 + x) (in_pieces a.residuals.list.now 0) a.plane.now c.predict.ensures (λ x y. omega arith) (pieces_transformed 4 0 scan_4 (omega arith) (omega arith) T) c.put_16x16.ensures
