-- `transform_8x8::steps::third_step` meets its contract: every sum fits, and each expression is the definition's. Assumes nothing.
use Rattle.laws.specs.Range.{at}
use Rattle.transform_8x8.specs.Inverse8x8.{third_step}
use Rattle.transform_8x8.proofs.Eights.{eight_is, each_within}
use Rattle.transform_8x8.proofs.Words.{plus, less}
use Rattle.transform_8x8.proofs.steps.third_step.Goals as goal

pub returns : goal.returns
unfolding third_step
returns c = let (w0, w1, w2, w3, w4, w5, w6, w7) = each_within 936448 c.args.f c.requires tt in
    eight_is
    (plus (at c.args.f 0) (at c.args.f 7) w0 w7)
    (plus (at c.args.f 2) (at c.args.f 5) w2 w5)
    (plus (at c.args.f 4) (at c.args.f 3) w4 w3)
    (plus (at c.args.f 6) (at c.args.f 1) w6 w1)
    (less (at c.args.f 6) (at c.args.f 1) w6 w1)
    (less (at c.args.f 4) (at c.args.f 3) w4 w3)
    (less (at c.args.f 2) (at c.args.f 5) w2 w5)
    (less (at c.args.f 0) (at c.args.f 7) w0 w7)
