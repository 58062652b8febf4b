-- `samples::intra_16x16::dc_16x16` meets its contract: in each case the sums are those of the neighbourhood. Assumes nothing.
use mathlib.Core.Path.{refl}
use mathlib.Core.Bool.{true, false}
use lib.Dec.{lit≤}
use Rattle.laws.proofs.Tests.{not_both}
use Rattle.basics.specs.Near.{mean, dc}
use Rattle.samples.proofs.Drawn.{dc_near}
use Rattle.samples.proofs.intra_16x16.dc_16x16.Goals as goal

pub returns-in-true-true : goal.returns-in-true-true
returns-in-true-true c p stands =
    rw (c.in-true-true.is-0, c.in-true-true.is-1)
    (dc_near 16 c.args.around p stands true true (lit≤ tt) c.mean_of.ensures (λ _. c.sum.ensures) (λ _. c.sum-l.ensures))

pub returns-in-true-false : goal.returns-in-true-false
returns-in-true-false c p stands =
    rw (c.in-true-false.is-0, c.in-true-false.is-1)
    (dc_near 16 c.args.around p stands true false (lit≤ tt) c.mean_of-in-true-false.ensures (λ _. c.sum-in-true-false.ensures) (λ h. absurd (not_both h refl)))

pub returns-in-false-true : goal.returns-in-false-true
returns-in-false-true c p stands =
    rw (c.in-false-true.is-0, c.in-false-true.is-1)
    (dc_near 16 c.args.around p stands false true (lit≤ tt) c.mean_of-in-false-true.ensures (λ h. absurd (not_both h refl)) (λ _. c.sum-in-false-true.ensures))

pub returns-in-false-false : goal.returns-in-false-false
unfolding dc mean
returns-in-false-false c p stands = rw (c.in-false-false.is-0, c.in-false-false.is-1)
