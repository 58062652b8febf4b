-- `samples::intra_chroma::dc_chroma` meets its contract: each sample is its region's. Assumes nothing.
use Rattle.samples.specs.IntraChroma.{chroma_dc}
use Rattle.samples.proofs.Drawn.{drawn, region_at}
use Rattle.samples.proofs.intra_chroma.dc_chroma.Goals as goal

pub returns : goal.returns
returns c p stands = let a = c.args.around in
    drawn 8 c.args.out.now (chroma_dc a.sides.above a.sides.left p) _ c.spread.ensures
    (region_at a p stands a.sides.above a.sides.left (c.regions-d.ensures p stands))
