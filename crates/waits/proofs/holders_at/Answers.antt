-- `waits::holders_at` meets its contract, neighbour by neighbour. Assumes nothing.
use mathlib.Core.Path.{refl}
use Rattle.waits.proofs.Holders.{marks_are}
use Rattle.waits.proofs.holders_at.Goals as goal

pub returns : goal.returns
returns c = marks_are refl refl refl refl
