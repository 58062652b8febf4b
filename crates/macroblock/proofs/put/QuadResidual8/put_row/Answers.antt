-- `macroblock::put::QuadResidual8::put_row` meets its contract: four samples, and four more whose residuals are those of the next block. Assumes nothing.
use mathlib.Core.Path.{ap, ◌∙◌}
use Prim.Native.Nat.{◌+◌, ◌*◌, ◌-◌, ◌/◌, ◌%◌}
use native.Mathlib.Omega.{arith}
use borrow.Rule.Slice.PartMut.{mid_of}
use lib.IntN.{pos}
use lib.ListN.{length, length-take, length-drop}
use Rattle.laws.specs.Range.{at}
use Rattle.laws.proofs.Stretches.{part_at}
use Rattle.macroblock.specs.inner.Blocks.{quad_place}
use Rattle.macroblock.proofs.Rows.{four_more}
use Rattle.macroblock.proofs.Sums.{quad_row, quad_next}
use Rattle.macroblock.proofs.put.QuadResidual8.put_row.Goals as goal

pub returns : goal.returns
returns c = let a = c.args in
    let l = a.self.now.list.now in
    let k = a.y / 4 * 32 + a.y % 4 * 4 in
    let n = length l - k in
    four_more a.pred.now a.row.now _ _ (mid_of k n l) 16 (λ x. at l (quad_place x a.y)) (omega arith)
    (simp (length-take, length-drop) (omega (arith, a.self.now.long))) (omega arith)
    (λ i h. part_at (pos 0) l k n i (omega (arith, a.self.now.long)) ∙ ap (at l) (quad_row i a.y h))
    (λ i h. part_at (pos 0) l k n (16 + i) (omega (arith, a.self.now.long)) ∙ ap (at l) (quad_next i a.y h))
    c.add_four.ensures c.add_four-2.ensures
