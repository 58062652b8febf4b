-- C gets the number of the routine's answer.
use Rattle.jiwarbend_c.proofs.pictures.jiwarbend_rebuild.Goals as goal

pub returns-clause-rebuilds : goal.returns-clause-rebuilds
returns-clause-rebuilds c = rw c.number_of.ensures c.jiwarbend_rebuild.ensures.rebuilds
