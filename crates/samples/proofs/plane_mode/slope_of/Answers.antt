-- `samples::plane_mode::slope_of` meets its contract. The invariant: h is the sum so far, which is at most 4080 for each term.
-- Assumes nothing.
use mathlib.Core.Path.{◌≡◌, refl}
use native.Mathlib.Omega.{arith}
use lib.ListN.{get_or}
use Rattle.laws.specs.Table.{sum_z}
use Rattle.samples.proofs.PlaneMode.{slope_is, slope_more}
use Rattle.samples.proofs.plane_mode.slope_of.Goals as goal

pub loop-i-init : goal.loop-i-init
unfolding sum_z
loop-i-init c = (omega arith, refl, omega arith)

pub loop-i-preserved : goal.loop-i-preserved
loop-i-preserved c =
    let l = c.loop-i in
    let (e, b) = slope_more c.args.m (λ k. get_or c.args.e.now k 0) l.i _ _ (omega arith) l.invariant.1 l.invariant.2 c.term-h.ensures in
    (omega arith, e, b)

pub returns : goal.returns
returns c =
    let l = c.loop-i in
    let k : l.i ≡ c.args.m = omega arith in
    slope_is c.args.m (λ k. get_or c.args.e.now k 0) _ (omega arith) (rw k at l.invariant.1) (rw k at l.invariant.2)
