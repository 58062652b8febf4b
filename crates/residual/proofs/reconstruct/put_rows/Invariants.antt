-- `residual::reconstruct::put_rows` meets its contract. The invariant: the first y rows are put. Assumes nothing.
use mathlib.Core.Path.{◌≡◌}
use Prim.Native.Nat.{◌≤◌}
use Rattle.residual.specs.Reconstruct.{sum_in}
use Rattle.residual.proofs.Squares.{put_rows}
use Rattle.residual.proofs.reconstruct.put_rows.Given as goal

abbrev pub invariant-loop-y : goal.invariant-loop-y
invariant-loop-y l = (l.y ≤ 4) × (l.rec ≡ put_rows 4 l.to.off l.to.stride l.y (sum_in 4 l.res l.pred l.from.off l.from.stride) l.initial.rec)
