-- `jiwarbend::two_halves::jiwarbend_compute` meets its contract, which is the routine's own over C's numbers. The two halves are the whole call by `in_two`,
-- and that results last is `lasting`. Assumes nothing.
use Rattle.halves.proofs.InTwo.{in_two}
use Rattle.halves.proofs.Lasting.{lasting}
use Rattle.jiwarbend.proofs.two_halves.jiwarbend_compute.Goals as goal

pub returns-clause-in_two : goal.returns-clause-in_two
returns-clause-in_two c = in_two

pub returns-clause-lasting : goal.returns-clause-lasting
returns-clause-lasting c = lasting
