-- `intra_nxn::run::Neighbours::down_line` meets its contract. The first loop puts two places a turn, the second one. Assumes nothing.
use mathlib.Core.Path.{◌≡◌}
use Prim.Native.Nat.{◌*◌}
use native.Mathlib.Omega.{arith}
use Rattle.intra_nxn.proofs.Slides.{pair_more, past_made}
use Rattle.intra_nxn.proofs.run.Neighbours.down_line.Goals as goal

pub loop-i-preserved : goal.loop-i-preserved
loop-i-preserved g c = let l = c.loop-i in
    pair_more (2 * g.row.N) _ _ _ l.i l.line (omega arith) (omega arith) l.invariant c.mean_from.ensures c.mean_round.ensures

pub returns : goal.returns
returns g c = let n = g.row.N in
    let e : c.loop-i.i ≡ n = omega arith in
    past_made n c.args.self.now.run _ _ _ _ (omega arith) (omega arith) (rw e at c.loop-i.invariant) c.loop-j.auto.x-items (λ k h. c.loop-j.invariant k (omega arith))
