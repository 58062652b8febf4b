-- `residual::rows::put_row` meets its contract: four numbers, one after the other. Assumes nothing.
use mathlib.Core.Path.{ap, ◌∙◌}
use Prim.Native.Nat.{◌+◌, ◌*◌}
use native.Mathlib.Nat.{add-zero}
use native.Mathlib.Omega.{arith}
use lib.Dec.{lit<}
use lib.ListN.{length-set}
use mir.Facts.{to_z-of_z}
use mir.Syntax.{w32}
use borrow.Author.Rules.{rules}
use Rattle.laws.specs.Range.{at}
use Rattle.laws.proofs.Ontos.{onto_next}
use Rattle.residual.proofs.rows.put_row.Goals as goal

pub bounds-l-k-2 : goal.bounds-l-k-2
bounds-l-k-2 c = simp length-set (omega arith)

pub bounds-l-k-3 : goal.bounds-l-k-3
bounds-l-k-3 c = simp length-set (omega arith)

pub bounds-l-k-4 : goal.bounds-l-k-4
bounds-l-k-4 c = simp length-set (omega arith)

pub returns : goal.returns
returns c = λ f old n same e. let i = c.args.i in
    onto_next (4 * i + 3) (4 * i + 4) f old (omega arith) (omega arith)
    (onto_next (4 * i + 2) (4 * i + 3) f old (omega arith) (omega arith)
    (onto_next (4 * i + 1) (4 * i + 2) f old (omega arith) (omega arith)
    (onto_next (4 * i) (4 * i + 1) f old (omega arith) (omega arith) e
    (to_z-of_z {w = w32} {z = at c.args.v 0} (search rules) ∙ same 0 (lit< tt) ∙ ap f (add-zero (4 * i))))
    (to_z-of_z {w = w32} {z = at c.args.v 1} (search rules) ∙ same 1 (lit< tt)))
    (to_z-of_z {w = w32} {z = at c.args.v 2} (search rules) ∙ same 2 (lit< tt)))
    (to_z-of_z {w = w32} {z = at c.args.v 3} (search rules) ∙ same 3 (lit< tt))
