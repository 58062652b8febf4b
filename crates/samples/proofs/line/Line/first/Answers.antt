-- `samples::line::Line::first` meets its contract. After i turns the first i samples are read. Assumes nothing.
use native.Mathlib.Omega.{arith}
use lib.ListN.{length-replicate}
use Rattle.laws.proofs.Tables.{filled_none, filled_more, filled_all}
use Rattle.samples.proofs.line.Line.first.Goals as goal

pub loop-i-init : goal.loop-i-init
loop-i-init g c = filled_none 0 _ g.row.N _ (length-replicate g.row.N 0)

pub loop-i-preserved : goal.loop-i-preserved
loop-i-preserved g c = filled_more 0 _ g.row.N c.loop-i.i c.loop-i.f _ (omega arith) c.loop-i.invariant c.get.ensures

pub returns : goal.returns
returns g c = filled_all 0 _ g.row.N c.loop-i.i c.loop-i.f (omega arith) c.loop-i.invariant
