-- `maps::slice_map::SliceMap::marks_at` meets its contract: where the place lies in the picture, the marks are those of the neighbours. Assumes nothing.
use mathlib.Core.Path.{◌∙◌}
use Rattle.maps.proofs.Beside.{marks_at_lem}
use Rattle.maps.proofs.slice_map.SliceMap.marks_at.Goals as goal

pub returns-clause-inside : goal.returns-clause-inside
returns-clause-inside c stands = let m = c.args.self in
    c.marks_of.ensures ∙ marks_at_lem m.w m.h m.slices.now c.args.x c.args.y m.fits.size m.fits.long stands
