-- `residual::inverse::invert_four` meets its contract. The invariant: the columns of the first b blocks are put. Assumes nothing.
use mathlib.Core.Path.{◌≡◌}
use Prim.Native.Nat.{◌*◌, ◌≤◌}
use Rattle.laws.specs.Table.{onto}
use Rattle.laws.proofs.Blockwise.{block_at}
use Rattle.residual.specs.inner.Passes.{columns_of}
use Rattle.residual.proofs.inverse.invert_four.Given as goal

abbrev pub invariant-loop-b : goal.invariant-loop-b
invariant-loop-b l = (l.b ≤ 4) × (l.h ≡ onto (16 * l.b) (block_at 16 columns_of l.f) l.initial.h)
