-- `samples::plane_mode::levels_of` meets its contract: the lines are those of the neighbourhood. Assumes nothing.
use native.Mathlib.Omega.{arith}
use Rattle.laws.proofs.Ints.{within_back}
use Rattle.samples.proofs.PlaneMode.{sloped}
use Rattle.samples.proofs.plane_mode.levels_of.Goals as goal

pub returns-clause-small : goal.returns-clause-small
returns-clause-small c = (within_back 8160 _ tt c.level_of.ensures.1, within_back 2219552 _ tt c.gradient_of.ensures.1, within_back 2219552 _ tt c.gradient_of-2.ensures.1)

pub returns-clause-sloped : goal.returns-clause-sloped
returns-clause-sloped c p stands corner = let a = c.args in
    sloped a.m a.k a.around.corner (omega arith) a.around p _ _ corner stands c.line_of-e.ensures c.line_of-f.ensures _ _ c.get.ensures c.get-2.ensures
    c.level_of.ensures c.slope_of.ensures c.gradient_of.ensures c.slope_of-2.ensures c.gradient_of-2.ensures
