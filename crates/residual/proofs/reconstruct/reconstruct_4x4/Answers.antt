-- `residual::reconstruct::reconstruct_4x4` meets its contract: it is the form over lists, of arrays. Assumes nothing.
use mathlib.Core.Path.{◌∙◌}
use native.Mathlib.Omega.{arith}
use lib.Dec.{lit≤}
use Rattle.std.proofs.lemmas.Result.{err_from_is_err_and}
use Rattle.residual.specs.Inverse.{in_range4x4}
use Rattle.residual.proofs.Rooms.{sums_array}
use Rattle.residual.proofs.reconstruct.reconstruct_4x4.Goals as goal

pub returns-in_err-reconstruct_4x4_lists-clause-answer_value : goal.returns-in_err-reconstruct_4x4_lists-clause-answer_value
returns-in_err-reconstruct_4x4_lists-clause-answer_value c = let p = err_from_is_err_and c.from_residual.result c.from_residual.ensures.1 in
    rw (p.1, p.2) (c.in_err-reconstruct_4x4_lists.ensures.value ∙ sums_array 16 in_range4x4 c.args.dequant.now c.args.pred.now (lit≤ tt) (omega arith) (omega arith))
