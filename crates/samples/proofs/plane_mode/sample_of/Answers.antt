-- `samples::plane_mode::sample_of` meets its contract: the number held is clipped to what the whole one is. Assumes nothing.
use mathlib.Core.Path.{ap, ◌∙◌}
use lib.IntN.{ℤ}
use Rattle.basics.specs.Clip.{Clip1}
use Rattle.samples.proofs.Held.{sample_is}
use Rattle.samples.proofs.PlaneMode.{rd}
use Rattle.samples.proofs.plane_mode.sample_of.Goals as goal

pub returns : goal.returns
returns c = c.clip_u8.ensures ∙ ap (λ (z : ℤ). Clip1 (rd z)) c.from.ensures ∙ (sample_is c.args.v c.ranges.v c.hold.ensures).1
