-- `samples::line::Line::sum` meets its contract. After i turns s is the sum of i samples. Assumes nothing.
use mathlib.Core.Path.{refl, ◌∙◌}
use native.Mathlib.Omega.{arith}
use Rattle.laws.specs.Table.{sum_of}
use Rattle.laws.proofs.Sums.{sum_more}
use Rattle.samples.proofs.line.Line.sum.Goals as goal

pub loop-i-init : goal.loop-i-init
unfolding sum_of
loop-i-init c = (refl, omega arith)

pub loop-i-preserved : goal.loop-i-preserved
loop-i-preserved c = (sum_more _ _ _ _ c.loop-i.invariant.0 (c.from-s.ensures ∙ c.get.ensures), omega (arith, c.from-s.ensures))
