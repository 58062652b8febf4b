-- `cut::sides_of` meets its contract: where a side lies in the macroblock, the block there is an earlier one. Assumes nothing.
use mathlib.Core.Path.{◌≡◌}
use mathlib.Core.Bool.{true, cond}
use native.Mathlib.Omega.{arith}
use lib.Dec.{eqb}
use borrow.Author.Rules.{rules}
use Rattle.cut.specs.Cut.{scan_y}
use Rattle.cut.proofs.Scan.{in_four}
use Rattle.cut.proofs.Sides.{told}
use Rattle.maps.specs.Neighbours.{marks_of}
use Rattle.cut.proofs.sides_of.Goals as goal
use Rattle.cut.proofs.sides_of.Goals.{then-v-gt0, else-v-gt0, then-u-gt0, else-u-gt0, then-v-gt0-2, else-v-gt0-2+then-u-gt0-2, else-v-gt0-2+else-u-gt0-2}

pub has_above_right-above_right-requires : goal.has_above_right-above_right-requires
unfolding scan_y
has_above_right-above_right-requires c = (rw c.scan_x-u.ensures (in_four c.args.k), omega (arith, c.scan_y-v.ensures), omega (arith, c.min.ensures))

pub returns : goal.returns
returns c =
    let u = c.scan_x-u.result in
    let v = c.scan_y-v.result in
    let m = c.args.marks in
    let above : c.if-v-gt0.above ≡ cond (eqb v 0) m.b true =
    elim c.if-v-gt0.branch [ then-v-gt0 w ↦ search rules | else-v-gt0 w ↦ search rules ] in
    let left : c.if-u-gt0.left ≡ cond (eqb u 0) m.a true =
    elim c.if-u-gt0.branch [ then-u-gt0 w ↦ search rules | else-u-gt0 w ↦ search rules ] in
    let corner : c.if-v-gt0-2.corner ≡ cond (eqb v 0) (cond (eqb u 0) m.d m.b) (cond (eqb u 0) m.a true) =
    elim c.if-v-gt0-2.branch [ then-v-gt0-2 w ↦ search rules | else-v-gt0-2+then-u-gt0-2 w ↦ search rules | else-v-gt0-2+else-u-gt0-2 w ↦ search rules ] in
    rw (c.has_above_right-above_right.ensures, c.min.ensures, above, left, corner, c.scan_x-u.ensures, c.scan_y-v.ensures)
    (told c.args.m c.args.k (marks_of m))
