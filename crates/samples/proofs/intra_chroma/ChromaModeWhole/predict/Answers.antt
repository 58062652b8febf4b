-- The block of a chroma mode meets its contract, mode by mode. Assumes nothing.
use mathlib.Core.Path.{ap}
use Rattle.basics.specs.Modes.{chroma_mode}
use Rattle.samples.proofs.Drawn.{chroma_dc_lem, chroma_across, chroma_down, chroma_plane}
use Rattle.samples.proofs.intra_chroma.ChromaModeWhole.predict.Goals as goal

pub returns-in-Dc : goal.returns-in-Dc
returns-in-Dc c p stands corner = chroma_dc_lem _ _ _ p c.args.out.now (ap chroma_mode c.in-Dc.is) (c.dc_chroma.ensures p stands)

pub returns-in-Horizontal : goal.returns-in-Horizontal
returns-in-Horizontal c p stands corner = chroma_across _ _ _ p c.args.out.now c.args.around (ap chroma_mode c.in-Horizontal.is) stands c.across.ensures

pub returns-in-Vertical : goal.returns-in-Vertical
returns-in-Vertical c p stands corner = chroma_down _ _ _ p c.args.out.now c.args.around (ap chroma_mode c.in-Vertical.is) stands c.down.ensures

pub returns-in-Plane : goal.returns-in-Plane
returns-in-Plane c p stands corner = chroma_plane _ _ _ p c.args.out.now (ap chroma_mode c.in-Plane.is) (c.plane_over.ensures p stands corner)
