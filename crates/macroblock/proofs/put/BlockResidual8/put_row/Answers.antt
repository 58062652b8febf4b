-- `macroblock::put::BlockResidual8::put_row` meets its contract: four samples, and four more through the parts after them. Assumes nothing.
use Prim.Native.Nat.{◌+◌, ◌*◌, ◌-◌}
use native.Mathlib.Omega.{arith}
use borrow.Rule.Slice.PartMut.{mid_of}
use lib.IntN.{pos}
use lib.ListN.{length, length-take, length-drop}
use Rattle.laws.specs.Range.{at}
use Rattle.laws.proofs.Stretches.{part_at}
use Rattle.macroblock.proofs.Rows.{four_more}
use Rattle.macroblock.proofs.put.BlockResidual8.put_row.Goals as goal

pub returns : goal.returns
returns c = let a = c.args in
    let l = a.self.now.list.now in
    let k = 8 * a.y in
    let n = length l - k in
    four_more a.pred.now a.row.now _ _ (mid_of k n l) 4 (λ x. at l (8 * a.y + x)) (omega arith)
    (simp (length-take, length-drop) (omega (arith, a.self.now.long))) (omega arith)
    (λ i h. part_at (pos 0) l k n i (omega (arith, a.self.now.long)))
    (λ i h. part_at (pos 0) l k n (4 + i) (omega (arith, a.self.now.long)))
    c.add_four.ensures c.add_four-2.ensures
