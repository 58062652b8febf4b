-- `waits::join` meets its contract, mark by mark. Assumes nothing.
use mathlib.Core.Path.{refl}
use Rattle.waits.proofs.Holders.{marks_are}
use Rattle.waits.proofs.join.Goals as goal

pub returns : goal.returns
returns c = marks_are refl refl refl refl
