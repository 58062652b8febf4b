-- `intra_nxn::rows::slide` meets its contract. After z turns the first 2z rows are put, each through its own part of the block. Assumes nothing.
use mathlib.Core.Path.{◌≡◌}
use Prim.Native.Nat.{◌*◌, ◌/◌, ◌%◌}
use Rattle.laws.specs.Table.{onto}
use Rattle.intra_nxn.specs.inner.Run.{slid}
use Rattle.intra_nxn.proofs.rows.slide.Given as goal

abbrev pub invariant-loop-z : goal.invariant-loop-z
invariant-loop-z g l = l.out ≡ onto (2 * l.z * g.row.N) (λ k. slid l.even l.a l.odd l.b l.up l.back (k % g.row.N) (k / g.row.N)) l.initial.out
