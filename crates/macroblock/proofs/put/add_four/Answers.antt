-- `macroblock::put::add_four` meets its contract: four sums, one after the other. Assumes nothing.
use Prim.Native.Nat.{ℕ}
use native.Mathlib.Omega.{arith}
use mir.Facts.{to_z-of_z}
use borrow.Author.Rules.{sfits_of}
use lib.IntN.{pos, ◌+ℤ◌}
use lib.ListN.{get_or}
use Rattle.laws.specs.Range.{at}
use Rattle.laws.proofs.Patches.{front_next, front_none}
use Rattle.basics.specs.Clip.{Clip1}
use Rattle.macroblock.proofs.put.add_four.Goals as goal

pub returns : goal.returns
returns c = let a = c.args in
    let l = a.row.now in
    let f : ℕ → ℕ = λ i. Clip1 (pos (get_or a.pred.now i 0) +ℤ at a.res.now i) in
    front_next 3 4 f l (omega arith) (omega arith)
    (front_next 2 3 f l (omega arith) (omega arith)
    (front_next 1 2 f l (omega arith) (omega arith)
    (front_next 0 1 f l (omega arith) (omega arith) (front_none f l)
    (simp (to_z-of_z, sfits_of, c.sum_of-arg-1.given) at c.sum_of-a.ensures))
    (simp (to_z-of_z, sfits_of, c.sum_of-arg-2-1.given) at c.sum_of-b.ensures))
    (simp (to_z-of_z, sfits_of, c.sum_of-arg-3-1.given) at c.sum_of-c.ensures))
    (simp (to_z-of_z, sfits_of, c.sum_of-arg-4-1.given) at c.sum_of-d.ensures)
