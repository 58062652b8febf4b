-- All that is said of slices, in one. Assumes nothing.
use Rattle.slices.specs.SlicesApart.{SlicesApart}
use Rattle.slices.proofs.Answers.{slice_answers}
use Rattle.slices.proofs.LostSlice.{lost_slice, among_others}

pub slices_apart : SlicesApart
slices_apart = record { samples = lost_slice; among_others = among_others; answers = slice_answers }
