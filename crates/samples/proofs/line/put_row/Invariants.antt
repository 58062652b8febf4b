-- `samples::line::put_row` meets its contract. After k turns the first k bytes are the row's. Assumes nothing.
use mathlib.Core.Path.{◌≡◌}
use lib.ListN.{get_or}
use Rattle.laws.specs.Table.{onto}
use Rattle.samples.proofs.line.put_row.Given as goal

abbrev pub invariant-loop-k : goal.invariant-loop-k
invariant-loop-k g l = l.out ≡ onto l.k (λ i. get_or l.row i 0) l.initial.out
