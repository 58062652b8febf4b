-- `residual::reconstruct::clipped_sums` meets its contract. The invariant: the places passed hold the clipped sums. Assumes nothing.
use lib.IntN.{◌+ℤ◌}
use Rattle.laws.specs.Range.{at}
use Rattle.laws.proofs.Tables.{Filled}
use Rattle.basics.specs.Clip.{Clip1}
use Rattle.residual.proofs.reconstruct.clipped_sums.Given as goal

abbrev pub invariant-loop-k : goal.invariant-loop-k
invariant-loop-k g l = Filled 0 (λ i. Clip1 (at l.pred i +ℤ at l.res i)) g.row.N l.k l.made
