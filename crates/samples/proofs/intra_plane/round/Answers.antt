-- `samples::intra_plane::round` meets its contract: what is read round the block is its neighbourhood in the plane. Assumes nothing.
use mathlib.Core.Path.{ap}
use Prim.Native.Nat.{ℕ}
use native.Mathlib.Nat.{zero-mul}
use native.Mathlib.Omega.{arith}
use lib.ListN.{get_or}
use Rattle.basics.specs.Near.{near_in}
use Rattle.samples.proofs.IntraPlane.{row_lies, column_lies, above_at, left_at}
use Rattle.samples.proofs.intra_plane.round.Goals as goal

pub returns-clause-lies : goal.returns-clause-lies
returns-clause-lies c n room = let a = c.args in (row_lies n a.base a.stride a.rec.now room, column_lies n a.base a.stride a.rec.now room)

pub returns-clause-stands : goal.returns-clause-stands
returns-clause-stands c n room = let a = c.args in
    record { above_is = λ x _. above_at n a.base a.stride a.rec.now room x; left_is = λ y _. left_at n a.base a.stride a.rec.now room y }

pub returns-clause-corner : goal.returns-clause-corner
unfolding near_in
returns-clause-corner c = ap (λ (k : ℕ). get_or c.args.rec.now k 0) (omega (arith, zero-mul c.args.stride))
