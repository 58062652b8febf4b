-- `order_check::early::Placed::early_at` meets its contract: what is marked stands so far back. Assumes nothing.
use Rattle.std.proofs.Common.{◌≡◌, ℕ, ◌≤◌, ◌<◌, true, length, arith, sym, ap, ◌∙◌}
use Rattle.maps.specs.Neighbours.{Side, marks_of, available}
use Rattle.maps.specs.Neighbours.Side.{A, B, C, D}
use Rattle.maps.specs.Size.{address, Stands}
use Rattle.maps.specs.declared.neighbours.Marks.{Marks}
use Rattle.maps.proofs.Beside.{back_of, available_at}
use Rattle.maps.proofs.Sizes.{address_inside}
use Rattle.order_check.specs.declared.early.Placed.{Placed}
use Rattle.order_check.proofs.Least.{on_back, on_any}
use Rattle.order_check.proofs.early.Placed.early_at.Goals as goal

module _ (s : Placed) (x y : ℕ) (stands : Stands s.map.w s.map.h x y) (m : Marks) (is : marks_of m ≡ available s.map.w s.map.slices.now x y) where
  -- the macroblock lies in the table, and so does a marked neighbour
  room : (k : Side) → (address s.map.w x y < length s.places.now) × (marks_of m k ≡ true → back_of s.map.w k ≤ address s.map.w x y)
  room k = (
    omega (arith, address_inside s.map.w s.map.h x y stands, s.room),
    (λ t. (available_at s.map.w x y s.map.slices.now k stands.in_w (sym (ap (λ f. f k) is) ∙ t)).back),
  )

pub if_marked-a-requires : goal.if_marked-a-requires
if_marked-a-requires c = room c.args.self c.args.x c.args.y c.requires c.marks_at-marks.result (c.marks_at-marks.ensures.inside c.requires) A

pub if_marked-b-requires : goal.if_marked-b-requires
if_marked-b-requires c = room c.args.self c.args.x c.args.y c.requires c.marks_at-marks.result (c.marks_at-marks.ensures.inside c.requires) B

pub if_marked-c-requires : goal.if_marked-c-requires
if_marked-c-requires c = room c.args.self c.args.x c.args.y c.requires c.marks_at-marks.result (c.marks_at-marks.ensures.inside c.requires) C

pub if_marked-d-requires : goal.if_marked-d-requires
if_marked-d-requires c = room c.args.self c.args.x c.args.y c.requires c.marks_at-marks.result (c.marks_at-marks.ensures.inside c.requires) D

pub returns : goal.returns
returns c = let s = c.args.self in
    let on = on_back s.map.w s.map.slices.now s.places.now c.args.x c.args.y in
    let is = λ (k : Side). ap (λ f. f k) (c.marks_at-marks.ensures.inside c.requires) in
    on_any s.map.w s.map.slices.now s.places.now c.args.x c.args.y _ _ _ _ _
    (c.if_marked-a.ensures ∙ on A _ c.requires.in_w (is A))
    (c.if_marked-b.ensures ∙ on B _ c.requires.in_w (is B))
    (c.if_marked-c.ensures ∙ on C _ c.requires.in_w (is C))
    (c.if_marked-d.ensures ∙ on D _ c.requires.in_w (is D))
    c.place_if.ensures
