-- `transform_8x8::steps::second_step` meets its contract: every sum fits, and each expression is the definition's. Assumes nothing.
use Rattle.laws.specs.Range.{at}
use Rattle.transform_8x8.specs.Inverse8x8.{second_step}
use Rattle.transform_8x8.proofs.Eights.{eight_is, each_within}
use Rattle.transform_8x8.proofs.Words.{plus, less, plus_quarter, less_quarter, quarter_less}
use Rattle.transform_8x8.proofs.steps.second_step.Goals as goal

pub returns : goal.returns
unfolding second_step
returns c = let (w0, w1, w2, w3, w4, w5, w6, w7) = each_within 845824 c.args.e c.requires tt in
    eight_is
    (plus (at c.args.e 0) (at c.args.e 6) w0 w6)
    (plus_quarter (at c.args.e 1) (at c.args.e 7) w1 w7)
    (plus (at c.args.e 2) (at c.args.e 4) w2 w4)
    (plus_quarter (at c.args.e 3) (at c.args.e 5) w3 w5)
    (less (at c.args.e 2) (at c.args.e 4) w2 w4)
    (quarter_less (at c.args.e 3) (at c.args.e 5) w3 w5)
    (less (at c.args.e 0) (at c.args.e 6) w0 w6)
    (less_quarter (at c.args.e 7) (at c.args.e 1) w7 w1)
