-- `jiwarbend::two_halves::jiwarbend_commit` meets its contract, which is the routine's own over C's numbers; what workers leave is `workers`. Assumes nothing.
use Rattle.std.proofs.Common.{rules}
use Rattle.halves.proofs.Workers.{workers}
use Rattle.jiwarbend.proofs.two_halves.jiwarbend_commit.Goals as goal

pub returns-clause-commits : goal.returns-clause-commits
returns-clause-commits c m = search (rules, c.commit.ensures.commits m)

pub returns-clause-workers : goal.returns-clause-workers
returns-clause-workers c = workers
