-- `samples::intra_plane::i16x16_luma_pred` meets its contract: past the rules there is room, and what is read is the plane's. Assumes nothing.
use mathlib.Core.Path.{sym, ◌∙◌}
use native.Mathlib.Omega.{arith}
use Rattle.samples.proofs.IntraPlane.{room_yes}
use Rattle.samples.proofs.intra_plane.i16x16_luma_pred.Goals as goal

pub round-requires : goal.round-requires
round-requires c = let r = room_yes _ _ _ _ (sym c.room_round.ensures ∙ c.if-not-room_round.false) in (r.corner, omega (arith, r.column))

pub predict-requires : goal.predict-requires
predict-requires c = (c.round.ensures.lies 16 (room_yes _ _ _ _ (sym c.room_round.ensures ∙ c.if-not-room_round.false)), omega arith)

pub returns-clause-lent : goal.returns-clause-lent
returns-clause-lent c =
    rw (c.round.ensures.sides.0, c.round.ensures.sides.1, c.in_ok-mode.ensures) at
    (c.predict.ensures _ (c.round.ensures.stands 16 (room_yes _ _ _ _ (sym c.room_round.ensures ∙ c.if-not-room_round.false))) c.round.ensures.corner)
