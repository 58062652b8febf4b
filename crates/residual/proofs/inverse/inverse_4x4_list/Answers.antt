-- `residual::inverse::inverse_4x4_list` meets its contract: the residuals have sixteen bits. Assumes nothing.
use mathlib.Core.Path.{sym}
use Rattle.laws.proofs.Answers.{passes_by}
use Rattle.residual.specs.Inverse.{in_range4x4}
use Rattle.residual.proofs.Halfway.{fits_4x4}
use Rattle.residual.proofs.inverse.inverse_4x4_list.Goals as goal

pub returns-clause-fits4x4 : goal.returns-clause-fits4x4
returns-clause-fits4x4 c = λ z. fits_4x4 c.args.deq.now (passes_by 7 (in_range4x4 c.args.deq.now) 0 (sym c.in_ok-invert_one.ensures.value)).0
