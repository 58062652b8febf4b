-- `jiwarbend::reconstruct::jiwarbend_reconstruct_4x4_dc_into` meets its contract, which is the routine's own. Assumes nothing.
use mir.Facts.{to_z-of_z}
use Rattle.jiwarbend.proofs.reconstruct.jiwarbend_reconstruct_4x4_dc_into.Goals as goal

pub returns : goal.returns
returns c = let f = c.ranges.rval in rw (to_z-of_z, c.window.ensures, c.window-2.ensures) at c.reconstruct_4x4_dc_into.ensures
