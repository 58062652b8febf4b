-- `samples::plane_mode::term` meets its contract: nothing leaves 32 bits. Assumes nothing.
use native.Mathlib.Omega.{arith}
use Rattle.laws.specs.Range.{Within}
use Rattle.laws.proofs.Ints.{ints}
use Rattle.samples.proofs.plane_mode.term.Goals as goal

pub returns : goal.returns
returns c =
    let e = c.from.ensures in
    let f = c.from-2.ensures in
    let p : Within 255 c.from.result = rw e (record { within = omega (arith, c.ranges.p.fits) }) in
    let q : Within 255 c.from-2.result = rw f (record { within = omega (arith, c.ranges.q.fits) }) in
    (search ints depth 20, search ints depth 20)
