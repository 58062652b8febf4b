-- `residual::passes::one_dimensional` meets its contract: every need is read off its expression by `ints`. Assumes nothing.
use Rattle.laws.proofs.Ints.{ints, four_is}
use Rattle.residual.specs.Inverse.{first_step, second_step}
use Rattle.residual.proofs.passes.one_dimensional.Goals as goal

pub returns : goal.returns
unfolding first_step second_step
returns c = four_is (search ints depth 20) (search ints depth 20) (search ints depth 20) (search ints depth 20)

pub overflow_add-result : goal.overflow_add-result
overflow_add-result c = search ints depth 20

pub overflow_add-result-2 : goal.overflow_add-result-2
overflow_add-result-2 c = search ints depth 20

pub overflow_sub-result : goal.overflow_sub-result
overflow_sub-result c = search ints depth 20

pub overflow_sub-result-2 : goal.overflow_sub-result-2
overflow_sub-result-2 c = search ints depth 20
