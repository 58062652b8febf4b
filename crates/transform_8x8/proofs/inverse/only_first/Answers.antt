-- `transform_8x8::inverse::only_first` meets its contract: none of the numbers after the first is other than 0. Assumes nothing.
use mathlib.Core.Path.{sym, ap, ◌∙◌}
use mir.Facts.{to_z-of_z}
use mir.Syntax.{w32}
use mir.Val.{to_z, of_z}
use borrow.Author.Tests.{eqb-true}
use Rattle.numbers.specs.Numbers.{is_zero}
use Rattle.transform_8x8.proofs.Firsts.{rest_zero}
use Rattle.transform_8x8.proofs.inverse.only_first.Goals as goal

pub returns-then-d-eq0-2 : goal.returns-then-d-eq0-2
unfolding is_zero
returns-then-d-eq0-2 c = λ e. let back = ap is_zero (to_z-of_z c.any_of.ensures.0) in
    rest_zero c.args.quad.numbers.now c.args.quad.long (sym c.any_of.ensures.1 ∙ sym back ∙ ap (λ n. is_zero (to_z w32 n)) (eqb-true (of_z w32 c.any_of.result) 0 e))
