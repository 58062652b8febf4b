-- `jiwarbend::small::jiwarbend_clip_u8` meets its contract, which is the routine's own. Assumes nothing.
use mir.Facts.{to_z-of_z}
use Rattle.jiwarbend.proofs.small.jiwarbend_clip_u8.Goals as goal

pub returns : goal.returns
returns c = let f = c.ranges.v in rw to_z-of_z at c.clip_u8.ensures
