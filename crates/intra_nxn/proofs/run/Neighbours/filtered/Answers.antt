-- `intra_nxn::run::Neighbours::filtered` meets its contract: the means of three, and the three that stand at the corner, are the filtered samples.
-- Assumes nothing.
use Rattle.intra_nxn.proofs.Filters.{filtered_run}
use Rattle.intra_nxn.proofs.run.Neighbours.filtered.Goals as goal

pub returns : goal.returns
returns g c p run = let s = c.args.sides in
    rw c.requires
    (filtered_run c.args.self.now.run _ s.above s.left s.corner _ _ _ c.means-run.ensures c.first_left.ensures c.at_corner.ensures c.first_above.ensures p
    (rw c.requires at run))
