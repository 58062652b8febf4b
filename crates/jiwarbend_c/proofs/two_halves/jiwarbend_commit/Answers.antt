-- C gets the number of the routine's answer, of which the clause holds for every record.
use Rattle.jiwarbend_c.proofs.two_halves.jiwarbend_commit.Goals as goal

pub returns-clause-commits : goal.returns-clause-commits
returns-clause-commits c m = rw c.number_of.ensures (c.jiwarbend_commit.ensures.commits m)
