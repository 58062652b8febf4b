-- `order_check::early::Placed::early_between` meets its contract: one neighbour is one place back, and three are a row back. Assumes nothing.
use Rattle.std.proofs.Common.{arith}
use Rattle.laws.proofs.Digits.{pred_mul}
use Rattle.maps.specs.Neighbours.Side.{A, B, C, D}
use Rattle.order_check.proofs.Least.{on_inner, on_any, inner_inside}
use Rattle.order_check.proofs.early.Placed.early_between.Goals as goal

pub returns : goal.returns
returns c = let s = c.args.self in
    let a = c.args in
    let inside = inner_inside s.map.w a.x a.y c.requires.0 c.requires.1 c.requires.2 in
    let up = pred_mul a.y s.map.w c.requires.2 in
    let on = on_inner s.map.w s.map.slices.now s.places.now a.x a.y in
    on_any s.map.w s.map.slices.now s.places.now a.x a.y _ _ _ _ _
    (on A _ (inside A) (omega (arith, c.requires.0)))
    (on B _ (inside B) (omega (arith, up)))
    (on C _ (inside C) (omega (arith, up)))
    (on D _ (inside D) (omega (arith, up, c.requires.0)))
    c.place_if.ensures
