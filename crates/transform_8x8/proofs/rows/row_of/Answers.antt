-- `transform_8x8::rows::row_of` meets its contract: eight numbers, one after the other. Assumes nothing.
use mathlib.Core.Path.{sym, ap, ◌∙◌}
use Prim.Native.Nat.{◌+◌, ◌*◌}
use native.Mathlib.Nat.{add-zero}
use mir.Facts.{to_z-of_z}
use mir.Syntax.{w32}
use mir.Val.{SFits}
use borrow.Author.Rules.{rules}
use Rattle.laws.specs.Range.{at}
use Rattle.laws.specs.Table.{table}
use Rattle.transform_8x8.proofs.Eights.{eight_is}
use Rattle.transform_8x8.proofs.rows.row_of.Goals as goal

pub returns : goal.returns
unfolding table
returns c = let k = 8 * c.args.i in
    let l = c.args.l.now in
    let f0 : SFits w32 (at l k) = search rules in
    let f1 : SFits w32 (at l (k + 1)) = search rules in
    let f2 : SFits w32 (at l (k + 2)) = search rules in
    let f3 : SFits w32 (at l (k + 3)) = search rules in
    let f4 : SFits w32 (at l (k + 4)) = search rules in
    let f5 : SFits w32 (at l (k + 5)) = search rules in
    let f6 : SFits w32 (at l (k + 6)) = search rules in
    let f7 : SFits w32 (at l (k + 7)) = search rules in
    eight_is (to_z-of_z f0 ∙ ap (at l) (sym (add-zero k))) (to_z-of_z f1) (to_z-of_z f2) (to_z-of_z f3) (to_z-of_z f4) (to_z-of_z f5) (to_z-of_z f6) (to_z-of_z f7)
