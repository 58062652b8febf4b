-- `residual::rows::row_of` meets its contract: four numbers, one after the other. Assumes nothing.
use mathlib.Core.Path.{sym, ap, ◌∙◌}
use Prim.Native.Nat.{◌+◌, ◌*◌}
use native.Mathlib.Nat.{add-zero}
use borrow.Author.Rules.{rules}
use mir.Facts.{to_z-of_z}
use mir.Syntax.{w32}
use Rattle.laws.specs.Range.{at}
use Rattle.laws.specs.Table.{table}
use Rattle.laws.proofs.Ints.{four_is}
use Rattle.residual.proofs.rows.row_of.Goals as goal

pub returns : goal.returns
unfolding table
returns c = let l = c.args.l.now in
    let k = 4 * c.args.i in
    four_is (to_z-of_z {w = w32} {z = at l k} (search rules) ∙ ap (at l) (sym (add-zero k)))
    (to_z-of_z {w = w32} {z = at l (k + 1)} (search rules))
    (to_z-of_z {w = w32} {z = at l (k + 2)} (search rules))
    (to_z-of_z {w = w32} {z = at l (k + 3)} (search rules))
