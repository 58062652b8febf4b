-- `macroblock::squares::chroma_square` meets its contract: the mode is not refused, and the sums are the definition's. Assumes nothing.
use mathlib.Core.Path.{◌∙◌}
use Prim.Native.Nat.{◌+◌, ◌*◌}
use native.Mathlib.Omega.{arith}
use Rattle.laws.specs.Steps.{up_to}
use Rattle.samples.specs.IntraChroma.{pred_c}
use Rattle.maps.specs.Neighbours.{marks_of}
use Rattle.cut.specs.Cut.{whole}
use Rattle.cut.proofs.Scan.{scan_2}
use Rattle.macroblock.specs.Kinds.{residual_in}
use Rattle.macroblock.specs.Square.{place_at}
use Rattle.macroblock.specs.inner.Blocks.{in_pieces}
use Rattle.macroblock.proofs.Drawn.{part_drawn, whole_sides, whole_place}
use Rattle.macroblock.proofs.Sums.{pieces_transformed}
use Rattle.macroblock.proofs.squares.chroma_square.Goals as goal

pub returns : goal.returns
unfolding up_to
returns c first numbers low T = let a = c.args in
    let at = place_at a.stride a.spot.y a.spot.x in
    part_drawn (whole 8) (λ k c. pred_c a.mode c.above c.left) (λ k. residual_in numbers (4 * a.q)) at (marks_of a.spot.marks) 0 (omega arith) (whole_place at) (c.square_sides-sides.ensures ∙ whole_sides (marks_of a.spot.marks))
    (λ x y. 0 + y * 8 + x) (in_pieces a.residuals.list.now (4 * a.q)) a.plane.now c.predict.ensures (λ x y. omega arith) (pieces_transformed 2 (4 * a.q) scan_2 low (omega (arith, c.requires.q_bound)) T) c.put_quad.ensures
