-- `samples::line::Line::first` meets its contract. After i turns the first i samples are read. Assumes nothing.
use Rattle.laws.proofs.Tables.{Filled}
use Rattle.samples.specs.inner.Line.{sample}
use Rattle.samples.proofs.line.Line.first.Given as goal

abbrev pub invariant-loop-i : goal.invariant-loop-i
invariant-loop-i g l = Filled 0 (sample l.self) g.row.N l.i l.f
