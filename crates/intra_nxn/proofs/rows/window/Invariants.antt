-- `intra_nxn::rows::window` meets its contract. After i turns the first i bytes are the line's. Assumes nothing.
use mathlib.Core.Path.{◌≡◌}
use Prim.Native.Nat.{◌+◌}
use lib.ListN.{get_or}
use Rattle.laws.specs.Table.{onto}
use Rattle.intra_nxn.proofs.rows.window.Given as goal

abbrev pub invariant-loop-i : goal.invariant-loop-i
invariant-loop-i g l = l.row ≡ onto l.i (λ k. get_or l.line (l.at + k) 0) l.initial.row
