-- `turn_count::late::RowAbove::late_between` meets its contract: the columns up to x are put, and the last one stays. Assumes nothing.
use Rattle.turn_count.proofs.Rows.{Columns}
use Rattle.turn_count.proofs.late.RowAbove.late_between.Given as goal

abbrev pub invariant-loop-x : goal.invariant-loop-x
invariant-loop-x l = Columns l.self.map.w l.self.map.slices.now l.self.y l.x l.above
