-- `intra_nxn::run::Neighbours::of` meets its contract: the samples to the left are laid, then those above, the last ones once more and the corner.
-- Assumes nothing.
use mathlib.Core.Path.{◌≡◌, ap}
use Prim.Native.Nat.{◌*◌}
use native.Mathlib.Omega.{arith}
use lib.ListN.{length, take}
use lib.Seq.{take_all}
use Rattle.intra_nxn.proofs.Runs.{run_made}
use Rattle.intra_nxn.proofs.run.Neighbours.of.Goals as goal

pub returns : goal.returns
returns g c = let b = c.args.beside in
    let n = g.row.N in
    let h = c.loop-k-2.invariant in
    let lefts : take n b.left.now ≡ b.left.now = take_all n b.left.now (omega arith) in
    let aboves : take (2 * n) b.above.now ≡ b.above.now = take_all (2 * n) b.above.now (omega arith) in
    rw (lefts, aboves)
    (run_made n b.above.now b.left.now b.corner c.loop-k-2.run (omega arith) (omega arith) h.0 (λ m l. rw lefts at (h.1 m l))
    (λ m l. rw aboves at (h.2 m (omega (arith, ap length aboves)))))
