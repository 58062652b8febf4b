-- `samples::plane_mode::gradient_of` meets its contract: nothing leaves 32 bits. Assumes nothing.
use native.Mathlib.Omega.{arith}
use Rattle.laws.specs.Range.{Within}
use Rattle.laws.proofs.Ints.{ints}
use Rattle.samples.proofs.plane_mode.gradient_of.Goals as goal

pub overflow_add-result : goal.overflow_add-result
overflow_add-result c =
    let e = c.from.ensures in
    let k : Within 34 c.from.result = rw e (record { within = omega (arith, c.requires.0) }) in
    search ints depth 20

pub returns : goal.returns
returns c =
    let e = c.from.ensures in
    let k : Within 34 c.from.result = rw e (record { within = omega (arith, c.requires.0) }) in
    (search ints depth 20, search ints depth 20)
