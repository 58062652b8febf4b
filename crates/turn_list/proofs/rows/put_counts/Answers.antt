-- `turn_list::rows::put_counts` meets its contract: after the last row all are counted. Assumes nothing.
use Rattle.std.proofs.Common.{length, arith}
use Rattle.laws.proofs.Tables.{filled_all}
use Rattle.turn_list.specs.Turn.{gapless}
use Rattle.turn_list.proofs.rows.put_counts.Goals as goal

pub returns : goal.returns
returns c = let a = c.args in filled_all 0 (gapless a.w a.done.now) (length a.rows.now) c.loop-y.y c.loop-y.rows (omega arith) c.loop-y.invariant
