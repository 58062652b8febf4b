-- `turn_count::late::RowAbove::late_at` meets its contract: what is marked is read where it stands in the row above. Assumes nothing.
use Rattle.std.proofs.Common.{◌≡◌, ℕ, true, ◌+◌, ◌-◌, ◌≤◌, ◌<◌, cond, max, get_or, arith, refl, sym, ap, ◌∙◌}
use mathlib.Core.Path.{ap₂}
use borrow.Author.Tests.{ltb-true}
use Rattle.laws.proofs.Tests.{and_both}
use Rattle.maps.specs.Neighbours.{Side, marks_of, available, beside_x}
use Rattle.maps.specs.Neighbours.Side.{B, C, D}
use Rattle.maps.specs.declared.neighbours.Marks.{Marks}
use Rattle.maps.proofs.Beside.{available_inside}
use Rattle.turn_count.specs.declared.late.RowAbove.{RowAbove}
use Rattle.turn_count.specs.inner.Late.{late_on}
use Rattle.turn_count.proofs.Rows.{on_row, row_room}
use Rattle.turn_count.proofs.late.RowAbove.late_at.Goals as goal
use Rattle.turn_count.proofs.late.RowAbove.late_at.Goals.{then-marks, else-marks, then-marks-2, else-marks-2, then-marks-3, else-marks-3}

module _ (s : RowAbove) (x : ℕ) (l : x < s.map.w) (m : Marks) (is : marks_of m ≡ available s.map.w s.map.slices.now x s.y) where
  -- a marked neighbour stands in the row above, and its number is small
  room : (k : Side) → marks_of m k ≡ true → (beside_x x k < 120) × (get_or s.late.now (beside_x x k) 0 ≤ 134)
  room k t =
      let low : s.y < 68 = omega (arith, s.inside, s.map.fits.size.most_h) in
      let r = row_room s.map.w s.map.slices.now s.y x s.late.now l s.is_late k s.map.fits.size.most_w low (sym (ap (λ f. f k) is) ∙ t) in
      (omega (arith, r.0, s.map.fits.size.most_w), r.1)

  some_left : m.d ≡ true → 0 < x
  some_left t = ltb-true 0 x (and_both _ _ (available_inside s.map.w x s.y s.map.slices.now D (sym (ap (λ f. f D) is) ∙ t))).1

pub overflow_add-b : goal.overflow_add-b
overflow_add-b c = omega (arith, (room c.args.self c.args.x c.requires.in_w c.marks_at-marks.result (c.marks_at-marks.ensures.inside c.requires) B c.if-marks.true).1)

pub bounds-self-x-then-marks-2 : goal.bounds-self-x-then-marks-2
bounds-self-x-then-marks-2 c = (room c.args.self c.args.x c.requires.in_w c.marks_at-marks.result (c.marks_at-marks.ensures.inside c.requires) C c.if-marks-2.true).0

pub overflow_add-c-then-marks-2 : goal.overflow_add-c-then-marks-2
overflow_add-c-then-marks-2 c = omega (arith, (room c.args.self c.args.x c.requires.in_w c.marks_at-marks.result (c.marks_at-marks.ensures.inside c.requires) C c.if-marks-2.true).1)

pub overflow_sub-d : goal.overflow_sub-d
overflow_sub-d c = some_left c.args.self c.args.x c.requires.in_w c.marks_at-marks.result (c.marks_at-marks.ensures.inside c.requires) c.if-marks-3.true

pub returns : goal.returns
returns c = let s = c.args.self in
    let m = c.marks_at-marks.result in
    let row = s.late.now in
    let on = λ (k : Side). on_row s.map.w s.map.slices.now s.y c.args.x row c.requires.in_w s.is_late k (marks_of m k) in
    let is = λ (k : Side). ap (λ f. f k) (c.marks_at-marks.ensures.inside c.requires) in
    let b : c.if-marks.b ≡ cond m.b (get_or row c.args.x 0 + 1) 0 =
    elim c.if-marks.branch [ then-marks t ↦ rw (t.if-marks.true) t.b-is | else-marks t ↦ rw (t.if-marks.false) t.b-is ] in
    let g : c.if-marks-2.c ≡ cond m.c (get_or row (c.args.x + 1) 0 + 2) 0 =
    elim c.if-marks-2.branch [ then-marks-2 t ↦ rw (t.if-marks-2.true) t.c-is | else-marks-2 t ↦ rw (t.if-marks-2.false) t.c-is ] in
    let d : c.if-marks-3.d ≡ cond m.d (get_or row (c.args.x - 1) 0) 0 =
    elim c.if-marks-3.branch [ then-marks-3 t ↦ rw (t.if-marks-3.true) t.d-is | else-marks-3 t ↦ rw (t.if-marks-3.false) t.d-is ] in
    let above : c.max.result ≡ max (late_on s.map.w s.map.slices.now c.args.x s.y C) (late_on s.map.w s.map.slices.now c.args.x s.y D) =
    c.max.ensures ∙ ap₂ max (g ∙ on C _ refl (is C) refl) (d ∙ on D _ refl (is D) (omega arith)) in
    c.max-2.ensures ∙ ap₂ max (b ∙ on B _ refl (is B) refl) above
