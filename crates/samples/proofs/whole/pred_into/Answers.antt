-- `samples::whole::pred_into` meets its contract: past the rules the lists have their lengths, and what stands in them is the neighbourhood. Assumes nothing.
use native.Mathlib.Omega.{arith}
use Rattle.std.proofs.lemmas.Grind.{common_steps}
use Rattle.basics.specs.Near.{near}
use Rattle.samples.proofs.Drawn.{in_lists, corner_is}
use Rattle.samples.proofs.whole.pred_into.Goals as goal

pub returns-clause-lent : goal.returns-clause-lent
returns-clause-lent g c = let b = c.args.beside in
    let e = rw c.from.ensures at
    (c.predict.ensures (near b.above.now b.left.now b.corner) (rw c.from.ensures (in_lists g.M.Whole.SIDE b b.corner)) (rw c.from.ensures (corner_is b))) in
    grind (arith, common_steps, e)
