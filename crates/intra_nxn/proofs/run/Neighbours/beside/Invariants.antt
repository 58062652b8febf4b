-- `intra_nxn::run::Neighbours::beside` meets its contract. After y turns the first y rows are put, each through its own part of the block. Assumes nothing.
use mathlib.Core.Path.{◌≡◌}
use Prim.Native.Nat.{◌*◌, ◌/◌, ◌-◌}
use lib.ListN.{get_or}
use Rattle.laws.specs.Table.{onto}
use Rattle.intra_nxn.proofs.run.Neighbours.beside.Given as goal

abbrev pub invariant-loop-y : goal.invariant-loop-y
invariant-loop-y g l = l.out ≡ onto (l.y * g.row.N) (λ k. get_or l.self.run (9 - k / g.row.N) 0) l.initial.out
