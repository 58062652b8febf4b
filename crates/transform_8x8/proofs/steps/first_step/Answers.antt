-- `transform_8x8::steps::first_step` meets its contract: every sum fits, and each expression is the definition's. Assumes nothing.
use Rattle.laws.specs.Range.{at}
use Rattle.laws.proofs.Ints.{ints}
use Rattle.transform_8x8.specs.Inverse8x8.{first_step}
use Rattle.transform_8x8.proofs.Eights.{eight_is, each_within}
use Rattle.transform_8x8.proofs.Words.{plus, less, half_less, plus_half, one, three, five, seven}
use Rattle.transform_8x8.proofs.steps.first_step.Goals as goal

pub returns : goal.returns
unfolding first_step
returns c = let (w0, w1, w2, w3, w4, w5, w6, w7) = each_within 241664 c.args.d c.requires tt in
    eight_is
    (plus (at c.args.d 0) (at c.args.d 4) w0 w4)
    (one (at c.args.d 3) (at c.args.d 5) w3 w5 (at c.args.d 7) w7)
    (less (at c.args.d 0) (at c.args.d 4) w0 w4)
    (three (at c.args.d 1) (at c.args.d 7) w1 w7 (at c.args.d 3) w3)
    (half_less (at c.args.d 2) (at c.args.d 6) w2 w6)
    (five (at c.args.d 1) (at c.args.d 7) w1 w7 (at c.args.d 5) w5)
    (plus_half (at c.args.d 2) (at c.args.d 6) w2 w6)
    (seven (at c.args.d 3) (at c.args.d 5) w3 w5 (at c.args.d 1) w1)

pub overflow_sub-e1-2 : goal.overflow_sub-e1-2
overflow_sub-e1-2 c = search ints depth 20

pub overflow_sub-e1-3 : goal.overflow_sub-e1-3
overflow_sub-e1-3 c = search ints depth 20

pub overflow_sub-e3 : goal.overflow_sub-e3
overflow_sub-e3 c = search ints depth 20

pub overflow_sub-e3-2 : goal.overflow_sub-e3-2
overflow_sub-e3-2 c = search ints depth 20

pub overflow_add-e5-2 : goal.overflow_add-e5-2
overflow_add-e5-2 c = search ints depth 20

pub overflow_add-e5-3 : goal.overflow_add-e5-3
overflow_add-e5-3 c = search ints depth 20

pub overflow_add-e7-2 : goal.overflow_add-e7-2
overflow_add-e7-2 c = search ints depth 20

pub overflow_add-e7-3 : goal.overflow_add-e7-3
overflow_add-e7-3 c = search ints depth 20
