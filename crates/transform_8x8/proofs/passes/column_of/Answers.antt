-- `transform_8x8::passes::column_of` meets its contract: the eight numbers read are those of the column. Assumes nothing.
use mathlib.Core.Path.{sym, ap, ◌∙◌}
use Prim.Native.Nat.{◌+◌}
use native.Mathlib.Nat.{zero-add}
use mir.Facts.{to_z-of_z}
use mir.Syntax.{w32}
use mir.Val.{SFits}
use borrow.Author.Rules.{rules}
use Rattle.laws.specs.Range.{at}
use Rattle.laws.specs.Table.{table}
use Rattle.transform_8x8.proofs.Eights.{eight_is}
use Rattle.transform_8x8.proofs.passes.column_of.Goals as goal

-- number 0 of the column, whose place is written without the 0
pub returns : goal.returns
unfolding table
returns c = let j = c.args.j in
    let g = c.args.g.now in
    let f0 : SFits w32 (at g j) = search rules in
    let f1 : SFits w32 (at g (8 + j)) = search rules in
    let f2 : SFits w32 (at g (16 + j)) = search rules in
    let f3 : SFits w32 (at g (24 + j)) = search rules in
    let f4 : SFits w32 (at g (32 + j)) = search rules in
    let f5 : SFits w32 (at g (40 + j)) = search rules in
    let f6 : SFits w32 (at g (48 + j)) = search rules in
    let f7 : SFits w32 (at g (56 + j)) = search rules in
    eight_is (to_z-of_z f0 ∙ ap (at g) (sym (zero-add j))) (to_z-of_z f1) (to_z-of_z f2) (to_z-of_z f3) (to_z-of_z f4) (to_z-of_z f5) (to_z-of_z f6) (to_z-of_z f7)
