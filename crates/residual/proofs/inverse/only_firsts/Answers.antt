-- `residual::inverse::only_firsts` meets its contract. The invariant: where none of the numbers passed is other than 0, those of the first b blocks are 0.
-- Assumes nothing.
use mathlib.Core.Path.{refl, ap, ◌∙◌}
use native.Mathlib.Omega.{arith}
use mir.Facts.{to_z-of_z}
use mir.Syntax.{w32}
use borrow.Author.Tests.{eqb-true}
use mir.Val.{to_z, of_z}
use Rattle.laws.proofs.Tests.{not_both}
use Rattle.numbers.specs.Numbers.{is_zero}
use Rattle.residual.proofs.Quads.{rest_next}
use Rattle.residual.proofs.inverse.only_firsts.Goals as goal

pub returns-then-not-may_be_easy : goal.returns-then-not-may_be_easy
returns-then-not-may_be_easy c = λ z. absurd (not_both z refl)

pub loop-b-init : goal.loop-b-init
loop-b-init c = (omega arith, λ e k i h. absurd (omega arith))

pub loop-b-preserved : goal.loop-b-preserved
loop-b-preserved c = let r = to_z-of_z c.any_of-any.ensures.0 in (
  omega arith,
  rest_next c.args.quad.numbers.now c.loop-b.b (to_z w32 c.loop-b.any-bits) (to_z w32 (of_z w32 c.any_of-any.result)) (omega (arith, c.args.quad.long)) (ap is_zero r ∙ c.any_of-any.ensures.1) c.loop-b.invariant.1,
)

pub returns : goal.returns
unfolding is_zero
returns c = λ e. record { rest = λ k i h. c.loop-b.invariant.1 (ap (λ n. is_zero (to_z w32 n)) (eqb-true c.loop-b.any-bits 0 e)) k i (omega arith) }
