-- `intra_nxn::run::Neighbours::means` meets its contract: after i turns the first i means are there. Assumes nothing.
use native.Mathlib.Omega.{arith}
use Rattle.intra_nxn.proofs.Filters.{means_made}
use Rattle.intra_nxn.proofs.run.Neighbours.means.Goals as goal

pub returns : goal.returns
returns g c = means_made c.args.self.now.run c.loop-i.x-items (omega arith) (λ k h. c.loop-i.invariant k (omega arith))
