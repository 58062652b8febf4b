-- `samples::intra_chroma::regions` meets its contract: the sums and means are the definition's. Assumes nothing.
use Rattle.samples.proofs.Drawn.{regions_are}
use Rattle.samples.proofs.intra_chroma.regions.Goals as goal

pub returns : goal.returns
returns c p stands = let a = c.args.around in
    regions_are a p stands a.sides.above a.sides.left
    c.sum-a0.ensures c.sum-a4.ensures c.sum-l0.ensures c.sum-l4.ensures
    c.mean_of.ensures c.mean_of-2.ensures c.mean_of-3.ensures c.mean_of-4.ensures
