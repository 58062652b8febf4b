-- `residual::passes::column` meets its contract: the four numbers read are those of the column. Assumes nothing.
use mathlib.Core.Path.{◌≡◌, refl, sym, ap, ◌∙◌}
use mathlib.Core.List.{List, [], ◌∷◌}
use Prim.Native.Nat.{ℕ, zero, suc, ◌+◌, ◌*◌, ◌<◌}
use native.Mathlib.Nat.{zero-add}
use native.Mathlib.Omega.{arith}
use lib.IntN.{ℤ}
use mir.Facts.{to_z-of_z}
use borrow.Author.Rules.{rules}
use mir.Syntax.{w32}
use mir.Val.{SFits}
use Rattle.laws.specs.Range.{at}
use Rattle.laws.proofs.Ints.{ints}
use Rattle.residual.proofs.Transform.{four_within}
use Rattle.residual.proofs.TwoPasses.{one_same}
use Rattle.residual.proofs.passes.column.Goals as goal

-- what is read: the first number's place is written without the 0
reads : (f : List ℤ) (j n : ℕ) → n < 4 → at (at f j ∷ at f (4 + j) ∷ at f (8 + j) ∷ at f (12 + j) ∷ []) n ≡ at f (4 * n + j)
reads f j zero h = ap (at f) (sym (zero-add j))
reads f j (suc zero) h = refl
reads f j (suc (suc zero)) h = refl
reads f j (suc (suc (suc zero))) h = refl
reads f j (suc (suc (suc (suc n)))) h = absurd (omega arith)

pub one_dimensional-requires : goal.one_dimensional-requires
one_dimensional-requires c = let w = c.requires.1 in four_within (search ints depth 20) (search ints depth 20) (search ints depth 20) (search ints depth 20)

pub returns : goal.returns
returns c = let f = c.args.f.now in
    let j = c.args.j in
    let f0 : SFits w32 (at f j) = search rules in
    let f1 : SFits w32 (at f (4 + j)) = search rules in
    let f2 : SFits w32 (at f (8 + j)) = search rules in
    let f3 : SFits w32 (at f (12 + j)) = search rules in
    simp to_z-of_z at c.one_dimensional.ensures
    ∙ one_same _ _ (reads c.args.f.now c.args.j)
