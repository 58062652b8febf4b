-- `residual::reconstruct::add_residual` meets its contract: arrays of N have N sums. Assumes nothing.
use mathlib.Core.Path.{◌≡◌, sym, ap, ◌∙◌}
use native.Mathlib.Omega.{arith}
use lib.ListN.{length}
use lib.Seq.{take_all}
use Rattle.numbers.proofs.InRange.{both_within}
use Rattle.residual.specs.Reconstruct.{sums}
use Rattle.residual.proofs.reconstruct.add_residual.Goals as goal

pub clipped_sums-requires : goal.clipped_sums-requires
clipped_sums-requires g c = (omega arith, ((omega arith, omega arith), both_within c.args.res.now c.args.pred.now (sym c.both_in_range.ensures ∙ c.if-not-both_in_range.false)))

pub returns-clause-block_value : goal.returns-clause-block_value
returns-clause-block_value g c = let n = length c.args.res.now in
    sym (take_all n c.clipped_sums.result (omega (arith, c.clipped_sums.ensures.long))) ∙ c.clipped_sums.ensures.sums
    ∙ (let e : n ≡ g.row.N = omega arith in ap (λ n. sums n c.args.res.now c.args.pred.now) e)
