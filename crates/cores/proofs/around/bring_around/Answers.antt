-- `cores::around::bring_around` meets its contract: each side's rectangle lies in both planes, and those brought after it leave it. Assumes nothing.
use mathlib.Core.Path.{◌≡◌, refl, ◌∙◌}
use mathlib.Core.List.{List}
use Prim.Native.Nat.{ℕ, ◌+◌, ◌-◌}
use native.Mathlib.Omega.{arith}
use lib.ListN.{length}
use Rattle.maps.specs.Neighbours.{marks_of}
use Rattle.moved.specs.Moved.{SameAround}
use Rattle.cores.specs.inner.Aside.{small_site}
use Rattle.cores.specs.inner.Rects.{put_rect_if}
use Rattle.cores.proofs.Brought.{Known, known, rect_a, rect_b, rect_c, rect_d, put_yes, wide, middle, taken_of, all_around}
use Rattle.cores.proofs.around.bring_around.Given.{Over}
use Rattle.cores.proofs.around.bring_around.Goals as goal
use Rattle.cores.proofs.around.bring_around.Goals.{Start, Joined-marks, Joined-marks-2, Joined-marks-3}
use Rattle.cores.proofs.around.bring_around.Goals.{then-marks, else-marks, then-marks-2, else-marks-2, then-marks-3, else-marks-3}

-- the numbers of the plane and of the small plane, as the function is called
around : (g : Over) (c : Start g) → let a = c.args in Known g.row.Q a.stride a.x a.y (length a.plane.now) (length a.small.now) a.marks
around g c = known _ _ _ _ _ _ c.args.marks c.requires.half c.requires.marks_value

-- what A, B and C put where they are marked
put_a : (g : Over) (c : Joined-marks g) → let a = c.args in let q = g.row.Q in
    c.if-marks.small ≡ put_rect_if a.marks.a 1 q (middle q - 1) (wide q) (taken_of q a.stride a.x a.y a.plane.now 1) a.small.now
put_a g c =
    let m = c.middle-to.ensures in elim c.if-marks.branch [
      | then-marks w ↦
          let e = w.before-then-marks-2.ensures in
          w.small-is
          ∙ put_yes _ _ _ _ _ _ c.args.plane.now c.args.small.now w.if-marks.true w.before-then-marks.ensures (omega (arith, e.0, m.0, m.1), e.1 ∙ m.1)
          w.copy_rect.ensures
      | else-marks w ↦ rw (w.if-marks.false) w.small-is
    ]

put_b : (g : Over) (c : Joined-marks-2 g) → let a = c.args in let q = g.row.Q in
    c.if-marks-2.small ≡ put_rect_if a.marks.b q 1 (middle q - wide q) (wide q) (taken_of q a.stride a.x a.y a.plane.now a.stride) c.if-marks.small
put_b g c =
    let m = c.middle-to.ensures in elim c.if-marks-2.branch [
      | then-marks-2 w ↦
          let e = w.before-then-marks-2-3.ensures in
          w.small-is
          ∙ put_yes _ _ _ _ _ _ c.args.plane.now c.if-marks.small w.if-marks-2.true w.before-then-marks-2-2.ensures (omega (arith, e.0, m.0, m.1), e.1 ∙ m.1)
          w.copy_rect-then-marks-2.ensures
      | else-marks-2 w ↦ rw (w.if-marks-2.false) w.small-is
    ]

put_c : (g : Over) (c : Joined-marks-3 g) → let a = c.args in let q = g.row.Q in
    c.if-marks-3.small
    ≡ put_rect_if a.marks.c q 1 (middle q - (wide q - q)) (wide q) (taken_of q a.stride a.x a.y a.plane.now (a.stride - q)) c.if-marks-2.small
put_c g c =
    let m = c.middle-to.ensures in elim c.if-marks-3.branch [
      | then-marks-3 w ↦
          let e = w.before-then-marks-3-2.ensures in
          w.small-is
          ∙ put_yes _ _ _ _ _ _ c.args.plane.now c.if-marks-2.small w.if-marks-3.true w.before-then-marks-3.ensures (omega (arith, e.0, m.0, m.1), e.1 ∙ m.1)
          w.copy_rect-then-marks-3.ensures
      | else-marks-3 w ↦ rw (w.if-marks-3.false) w.small-is
    ]

-- and with what D puts, all of them
all_put : (g : Over) (c : Joined-marks-3 g) (l : List ℕ) → let a = c.args in let q = g.row.Q in
    l ≡ put_rect_if a.marks.d 1 1 (middle q - (wide q + 1)) (wide q) (taken_of q a.stride a.x a.y a.plane.now (a.stride + 1)) c.if-marks-3.small
    → SameAround q (marks_of a.marks) (record { stride = a.stride; x = a.x; y = a.y; plane = a.plane.now }) (small_site q l)
all_put g c l e =
    let w = known _ _ _ _ _ _ c.args.marks c.requires.half c.requires.marks_value in
    all_around _ _ _ _ _ c.args.marks c.args.plane.now c.args.small.now _ _ _ l w.lies w.beside w.small
    (record { a = put_a g (goal.at.Joined-marks-3 g c).Joined-marks; b = put_b g (goal.at.Joined-marks-3 g c).Joined-marks-2; c = put_c g c; d = e })

pub returns-then-marks-4 : goal.returns-then-marks-4
returns-then-marks-4 g c =
    let e = c.before-then-marks-4-2.ensures in
    let m = c.middle-to.ensures in
    all_put g (goal.at.returns-then-marks-4 g c).Joined-marks-3 _
    (put_yes _ _ _ _ _ _ c.args.plane.now c.if-marks-3.small c.if-marks-4.true c.before-then-marks-4.ensures (omega (arith, e.0, m.0, m.1), e.1 ∙ m.1)
    c.copy_rect-then-marks-4.ensures)

pub returns-else-marks-4 : goal.returns-else-marks-4
returns-else-marks-4 g c = all_put g (goal.at.returns-else-marks-4 g c).Joined-marks-3 c.if-marks-3.small (rw (c.if-marks-4.false) refl)

pub overflow_mul-here : goal.overflow_mul-here
overflow_mul-here g c = let w = around g (goal.at.overflow_mul-here g c).Start in omega arith

pub overflow_mul-here-2 : goal.overflow_mul-here-2
overflow_mul-here-2 g c = let w = around g (goal.at.overflow_mul-here-2 g c).Start in omega arith

pub overflow_mul-here-3 : goal.overflow_mul-here-3
overflow_mul-here-3 g c = let w = around g (goal.at.overflow_mul-here-3 g c).Start in omega arith

pub overflow_add-here : goal.overflow_add-here
overflow_add-here g c = let w = around g (goal.at.overflow_add-here g c).Start in omega arith

pub before-requires : goal.before-requires
before-requires g c = let w = around g (goal.at.before-requires g c).Start in let p = w.beside.on_a c.if-marks.true in omega arith

pub copy_rect-requires-clause-rect_in : goal.copy_rect-requires-clause-rect_in
copy_rect-requires-clause-rect_in g c =
    let w = around g (goal.at.copy_rect-requires-clause-rect_in g c).Start in
    let b = c.before-then-marks.ensures in
    let e = c.before-then-marks-2.ensures in
    let m = c.middle-to.ensures in
    rect_a w b.1 (e.1 ∙ m.1) c.if-marks.true b.0 (omega (arith, e.0, m.0, m.1))

pub before-requires-then-marks-2 : goal.before-requires-then-marks-2
before-requires-then-marks-2 g c = let w = around g (goal.at.before-requires-then-marks-2 g c).Start in let p = w.beside.on_b c.if-marks-2.true in omega arith

pub copy_rect-requires-then-marks-2-clause-rect_in : goal.copy_rect-requires-then-marks-2-clause-rect_in
copy_rect-requires-then-marks-2-clause-rect_in g c =
    let w = around g (goal.at.copy_rect-requires-then-marks-2-clause-rect_in g c).Start in
    let b = c.before-then-marks-2-2.ensures in
    let e = c.before-then-marks-2-3.ensures in
    let m = c.middle-to.ensures in
    rw (c.if-marks.auto.small) (rect_b w b.1 (e.1 ∙ m.1) c.if-marks-2.true b.0 (omega (arith, e.0, m.0, m.1)))

pub overflow_sub-stride : goal.overflow_sub-stride
overflow_sub-stride g c = let w = around g (goal.at.overflow_sub-stride g c).Start in let p = w.beside.on_c c.if-marks-3.true in omega arith

pub before-requires-then-marks-3 : goal.before-requires-then-marks-3
before-requires-then-marks-3 g c = let w = around g (goal.at.before-requires-then-marks-3 g c).Start in let p = w.beside.on_c c.if-marks-3.true in omega arith

pub copy_rect-requires-then-marks-3-clause-rect_in : goal.copy_rect-requires-then-marks-3-clause-rect_in
copy_rect-requires-then-marks-3-clause-rect_in g c =
    let w = around g (goal.at.copy_rect-requires-then-marks-3-clause-rect_in g c).Start in
    let b = c.before-then-marks-3.ensures in
    let e = c.before-then-marks-3-2.ensures in
    let m = c.middle-to.ensures in
    rw (c.if-marks-2.auto.small, c.if-marks.auto.small) (rect_c w b.1 (e.1 ∙ m.1) c.if-marks-3.true b.0 (omega (arith, e.0, m.0, m.1)))

pub overflow_add-stride : goal.overflow_add-stride
overflow_add-stride g c = let w = around g (goal.at.overflow_add-stride g c).Start in let p = w.beside.on_d c.if-marks-4.true in omega arith

pub before-requires-then-marks-4 : goal.before-requires-then-marks-4
before-requires-then-marks-4 g c = let w = around g (goal.at.before-requires-then-marks-4 g c).Start in let p = w.beside.on_d c.if-marks-4.true in omega arith

pub copy_rect-requires-then-marks-4-clause-rect_in : goal.copy_rect-requires-then-marks-4-clause-rect_in
copy_rect-requires-then-marks-4-clause-rect_in g c =
    let w = around g (goal.at.copy_rect-requires-then-marks-4-clause-rect_in g c).Start in
    let b = c.before-then-marks-4.ensures in
    let e = c.before-then-marks-4-2.ensures in
    let m = c.middle-to.ensures in
    rw (c.if-marks-3.auto.small, c.if-marks-2.auto.small, c.if-marks.auto.small) (rect_d w b.1 (e.1 ∙ m.1) c.if-marks-4.true b.0 (omega (arith, e.0, m.0, m.1)))
