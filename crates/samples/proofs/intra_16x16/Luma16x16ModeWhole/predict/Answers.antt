-- The block of a 16x16 mode meets its contract, mode by mode. Assumes nothing.
use mathlib.Core.Path.{refl, ap}
use Rattle.basics.specs.Modes.{luma16x16_mode}
use Rattle.samples.proofs.Drawn.{luma_down, luma_across, luma_dc, luma_plane}
use Rattle.samples.proofs.intra_16x16.Luma16x16ModeWhole.predict.Goals as goal

pub returns-in-Vertical : goal.returns-in-Vertical
returns-in-Vertical c p stands corner = luma_down _ _ _ p c.args.out.now c.args.around (ap luma16x16_mode c.in-Vertical.is) stands c.down.ensures

pub returns-in-Horizontal : goal.returns-in-Horizontal
returns-in-Horizontal c p stands corner = luma_across _ _ _ p c.args.out.now c.args.around (ap luma16x16_mode c.in-Horizontal.is) stands c.across.ensures

pub returns-in-Dc : goal.returns-in-Dc
returns-in-Dc c p stands corner =
    luma_dc _ _ _ p c.args.out.now c.dc_16x16.result (ap luma16x16_mode c.in-Dc.is) c.requires.1 (c.dc_16x16.ensures p stands)
    (c.fill.ensures.after (λ v e. e)) refl

pub returns-in-Plane : goal.returns-in-Plane
returns-in-Plane c p stands corner = luma_plane _ _ _ p c.args.out.now (ap luma16x16_mode c.in-Plane.is) (c.plane_over.ensures p stands corner)
