-- `samples::intra_plane::room_round` meets its contract: the tests in the order of the definition. Assumes nothing.
use mathlib.Core.Path.{sym, ◌∙◌}
use native.Mathlib.Omega.{arith}
use Rattle.samples.proofs.IntraPlane.{room_last, room_no}
use Rattle.samples.proofs.intra_plane.room_round.Goals as goal

pub returns-then-starts_in : goal.returns-then-starts_in
returns-then-starts_in c = let a = c.args in room_last a.n a.len a.base a.stride (omega arith) (sym c.starts_in.ensures ∙ c.if-starts_in.true)

pub returns-else-starts_in : goal.returns-else-starts_in
returns-else-starts_in c = let a = c.args in
    c.if-starts_in.false ∙ sym (room_no a.n a.len a.base a.stride (sym c.starts_in.ensures ∙ c.if-starts_in.false))
