-- `samples::line::put_row` meets its contract. After k turns the first k bytes are the row's. Assumes nothing.
use mathlib.Core.Path.{refl}
use native.Mathlib.Omega.{arith}
use Rattle.laws.proofs.Ontos.{onto_none, onto_more}
use Rattle.samples.proofs.line.put_row.Goals as goal

pub loop-k-init : goal.loop-k-init
loop-k-init g c = onto_none _ _

pub loop-k-preserved : goal.loop-k-preserved
loop-k-preserved g c = let l = c.loop-k in
    onto_more l.k _ _ l.out (omega arith) l.invariant refl
