-- `samples::intra_chroma::chroma8x8_dc` meets its contract, at the corner 0. Assumes nothing.
use mathlib.Core.Path.{refl, ◌∙◌}
use lib.ListN.{replicate}
use Rattle.laws.proofs.Ontos.{onto_all}
use Rattle.basics.specs.Near.{near}
use Rattle.samples.proofs.Drawn.{in_lists}
use Rattle.samples.proofs.intra_chroma.chroma8x8_dc.Goals as goal

pub returns : goal.returns
returns c =
    (rw c.from.ensures at (c.dc_chroma.ensures (near c.args.top.now c.args.left.now 0) (rw c.from.ensures (in_lists 8 _ 0)))) ∙ onto_all 64 _ (replicate 64 0) refl
