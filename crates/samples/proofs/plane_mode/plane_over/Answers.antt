-- `samples::plane_mode::plane_over` meets its contract: the ramp of the neighbourhood's numbers is its plane. Assumes nothing.
use Prim.Native.Nat.{◌*◌, ◌/◌, ◌%◌}
use Rattle.samples.specs.PlaneMode.{plane}
use Rattle.samples.proofs.Drawn.{drawn}
use Rattle.samples.proofs.PlaneMode.{plane_is}
use Rattle.samples.proofs.plane_mode.plane_over.Goals as goal

pub returns : goal.returns
returns c p stands corner = let a = c.args in
    let n = 2 * a.m in
    drawn n a.out.now (plane a.m a.k p) _ c.ramp_over.ensures (λ i _. plane_is a.m a.k p (c.levels_of.ensures.sloped p stands corner) (i % n) (i / n))
