-- `transform_8x8::steps::one_dimensional` meets its contract: each step's numbers are within what the next one asks. Assumes nothing.
use mathlib.Core.Path.{◌≡◌, sym, ap, ◌∙◌, subst}
use mathlib.Core.List.{List}
use lib.IntN.{ℤ}
use Rattle.laws.specs.Range.{AllWithin, at}
use Rattle.transform_8x8.specs.Inverse8x8.{first_step, second_step, third_step}
use Rattle.transform_8x8.proofs.Bounded.{first_all, second_all}
use Rattle.transform_8x8.proofs.steps.one_dimensional.Goals as goal

-- the numbers after the second step
second_is : (d e f : List ℤ) → e ≡ first_step (at d) → f ≡ second_step (at e) → f ≡ second_step (at (first_step (at d)))
second_is d e f p q = q ∙ ap (λ e. second_step (at e)) p

pub second_step-requires : goal.second_step-requires
second_step-requires c = subst (AllWithin 845824) (sym c.first_step-e.ensures) (first_all 30208 (at c.args.d) c.requires.each)

pub third_step-g-requires : goal.third_step-g-requires
third_step-g-requires c = let f = second_is c.args.d c.first_step-e.result c.second_step.result c.first_step-e.ensures c.second_step.ensures in
    subst (AllWithin 936448) (sym f) (second_all 30208 (at c.args.d) c.requires.each)

pub returns : goal.returns
returns c = let f = second_is c.args.d c.first_step-e.result c.second_step.result c.first_step-e.ensures c.second_step.ensures in
    record { e_value = c.first_step-e.ensures; g_value = c.third_step-g.ensures ∙ ap (λ f. third_step (at f)) f }
