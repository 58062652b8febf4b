-- `intra_nxn::rows::window` meets its contract. After i turns the first i bytes are the line's. Assumes nothing.
use Prim.Native.Nat.{◌+◌, ◌-◌}
use native.Mathlib.Omega.{arith}
use Rattle.laws.proofs.Ontos.{onto_none, onto_more}
use Rattle.laws.proofs.Stretches.{part_at}
use Rattle.intra_nxn.proofs.rows.window.Goals as goal

pub loop-i-init : goal.loop-i-init
loop-i-init g c = onto_none _ _

pub loop-i-preserved : goal.loop-i-preserved
loop-i-preserved g c = let l = c.loop-i in
    let a = c.args in
    onto_more l.i _ _ l.row (omega arith) l.invariant (part_at 0 a.line.now a.at (a.at + g.row.N - a.at) l.i (omega arith))
