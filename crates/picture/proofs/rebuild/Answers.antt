-- `picture::rebuild` meets its contract: the first rules, and then the macroblock call, which finds room and whose other rules are those that are left; an
-- accepted call then marks the map and counts. Assumes nothing.
use mathlib.Core.Path.{◌≡◌, refl, sym, ap, ◌∙◌}
use mathlib.Core.Bool.{Bool}
use mathlib.Core.List.{List, [], ◌∷◌, ◌++◌}
use Prim.Native.Nat.{ℕ, ◌≤◌, ◌<◌}
use native.Mathlib.Omega.{arith}
use lib.ListN.{length}
use Rattle.std.proofs.Common.{rules}
use Rattle.laws.specs.Answer.{answer, written}
use Rattle.laws.proofs.Answers.{put, refused}
use Rattle.refusals.specs.Refusal.{number_of}
use Rattle.maps.specs.Done.{all_settled}
use Rattle.maps.specs.Neighbours.{Side, marks_of, marks_at}
use Rattle.maps.specs.declared.neighbours.Marks.{Marks}
use Rattle.maps.specs.Progress.{progress_of}
use Rattle.maps.specs.Size.{total}
use Rattle.maps.proofs.Beside.{marks_at_lem}
use Rattle.maps.proofs.Sizes.{total_most, address_inside}
use Rattle.macroblock.specs.Kinds.{record_in, luma_square, cb_square, cr_square}
use Rattle.macroblock.specs.Rules.{early_rules, wait_rule, numbers_rule}
use Rattle.waits.specs.Waits.{waits}
use Rattle.calls.specs.Rebuild.{Call, call, Lent, lent, here, marks, first}
use Rattle.calls.proofs.Rebuilt.{refused_first, refused_late, taken, lent_same, lent_rebuilt}
use Rattle.calls.proofs.Rules.{Passed, passed_is, ready_now, late_rules}
use Rattle.calls.proofs.Squares.{by_macroblock}
use Rattle.picture.proofs.rebuild.Goals as goal
use Rattle.picture.proofs.rebuild.Goals.{After-refuse, In_ok-refuse, After-rebuild}

-- a plane that a refused macroblock call leaves, and one that an accepted call leaves
old : {r : ℕ} {z : List ℕ} (l v : List ℕ) → ¬ (r ≡ 0) → z ≡ written r l v → z ≡ l
old {r} l v n e = e ∙ refused r l v n

new : {r : ℕ} {z : List ℕ} (l : List ℕ) (f : (Side → Bool) → List ℕ) {m m' : Side → Bool} → m ≡ m' → r ≡ 0 → z ≡ written r l (f m) → z ≡ f m'
new l f {m} h n e = e ∙ put l (f m) n ∙ ap f h

-- ---- over a call and what it is lent, where the first rules hold
module _ (k : Call) (s : Lent) (e : first k s ≡ 0) where
  passed : Passed k s
  passed = passed_is k s e

  -- the address is one of at most 8160
  within : (here k < total k.width k.height) × (total k.width k.height ≤ 8160)
  within = (address_inside k.width k.height k.x k.y passed.place, total_most k.width k.height passed.size)

  -- the marks are the picture's, and so those that the record waits for are
  marks_right : (m : Marks) → marks_of m ≡ marks_at k.width k.height k.slices k.x k.y → marks_of m ≡ marks k
  marks_right m f = f ∙ marks_at_lem k.width k.height k.slices k.x k.y passed.size passed.room.slices_long passed.place

  ready_is : (m : Marks) (b : Bool) → marks_of m ≡ marks k → b ≡ all_settled k.width k.x k.y (waits (marks_of m) k.mb) s.done → b ≡ ready_now k s
  ready_is m b f g = g ∙ ap (λ (n : Side → Bool). all_settled k.width k.x k.y (waits n k.mb) s.done) f

-- ---- at the steps of the code
-- the first rules answer as the definition
early : (c : After-refuse) → let a = c.args in let p = a.planes.now in let k = call a.spot p.strides a.slices.now (record_in a.rec) in
    number_of c.refuse.result ≡ first k (lent p.luma.now p.cb.now p.cr.now a.done.now (progress_of a.progress.now))
early c =
    let e = c.shown.ensures in
    rw (e.0, e.1, e.2, e.3, c.from-before.ensures) at (c.refuse.ensures.first (record_in c.args.rec) (sym c.has_lists-lists.ensures))

-- and where the call goes on they hold
fine : (c : In_ok-refuse) → let a = c.args in let p = a.planes.now in
    first (call a.spot p.strides a.slices.now (record_in a.rec)) (lent p.luma.now p.cb.now p.cr.now a.done.now (progress_of a.progress.now)) ≡ 0
fine c =
    let e = c.shown.ensures in
    rw (e.0, e.1, e.2, e.3, c.from-before.ensures) at
    (sym (c.in_ok-refuse.ensures.first (record_in c.args.rec) (sym c.has_lists-lists.ensures)))

-- the macroblock call's answer is this call's
answered : (c : After-rebuild) → let a = c.args in let p = a.planes.now in let k = call a.spot p.strides a.slices.now (record_in a.rec) in
    let s = lent p.luma.now p.cb.now p.cr.now a.done.now (progress_of a.progress.now) in
    first k s ≡ 0 → (marks_of c.marks_of-marks.result ≡ marks k) × (number_of c.rebuild.result ≡ answer (late_rules k s))
answered c e =
    let a = c.args in
    let p = a.planes.now in
    let k = call a.spot p.strides a.slices.now (record_in a.rec) in
    let s = lent p.luma.now p.cb.now p.cr.now a.done.now (progress_of a.progress.now) in
    let g = passed k s e in
    let m = marks_right k s e c.marks_of-marks.result c.marks_of-marks.ensures in (
      m,
      by_macroblock k (λ p. length (s.planes p)) g.room.planes g.place _ c.is_ready-ready.result m c.rebuild.ensures.value
          ∙ ap (λ (b : Bool). answer (early_rules (marks k) k.mb ++ wait_rule b ∷ numbers_rule k.mb ∷ []))
          (ready_is k s e c.marks_of-marks.result c.is_ready-ready.result m (c.is_ready-ready.ensures a.rec.numbers.now)),
    )

pub returns-in_err-refuse-clause-rebuilds : goal.returns-in_err-refuse-clause-rebuilds
returns-in_err-refuse-clause-rebuilds c =
    let e : number_of c.from_residual.result ≡ number_of c.refuse.result = search rules in
    refused_first _ _ (e ∙ early (goal.at.returns-in_err-refuse-clause-rebuilds c).After-refuse) (search rules)

pub returns-in_err-rebuild-clause-rebuilds : goal.returns-in_err-rebuild-clause-rebuilds
returns-in_err-rebuild-clause-rebuilds c =
    let w = goal.at.returns-in_err-rebuild-clause-rebuilds c in
    let e = fine w.In_ok-refuse in
    let q = c.rebuild.ensures in
    let n : ¬ (number_of c.rebuild.result ≡ 0) = search rules in
    let r : number_of c.from_residual-in_err-rebuild.result ≡ number_of c.rebuild.result = search rules in
    let p = c.args.planes.now in
    refused_late _ _ e (r ∙ (answered w.After-rebuild e).1) (search rules)
    (lent_same (old p.luma.now _ n q.luma_after) (old p.cb.now _ n q.cb_after) (old p.cr.now _ n q.cr_after) refl refl)

pub overflow_mul-here : goal.overflow_mul-here
overflow_mul-here c = omega (arith, within _ _ (fine (goal.at.overflow_mul-here c).In_ok-refuse))

pub overflow_add-here : goal.overflow_add-here
overflow_add-here c = omega (arith, within _ _ (fine (goal.at.overflow_add-here c).In_ok-refuse))

pub bounds-done-here : goal.bounds-done-here
bounds-done-here c =
    let e = fine (goal.at.bounds-done-here c).In_ok-refuse in
    omega (arith, within _ _ e, (passed _ _ e).room.done_long)

pub overflow_mul-spot : goal.overflow_mul-spot
overflow_mul-spot c = omega (arith, within _ _ (fine (goal.at.overflow_mul-spot c).In_ok-refuse))

pub returns-clause-rebuilds : goal.returns-clause-rebuilds
returns-clause-rebuilds c =
    let a = c.args in
    let p = a.planes.now in
    let r = record_in a.rec in
    let k = call a.spot p.strides a.slices.now r in
    let s = lent p.luma.now p.cb.now p.cr.now a.done.now (progress_of a.progress.now) in
    let e = fine (goal.at.returns-clause-rebuilds c).In_ok-refuse in
    let q = c.rebuild.ensures in
    let z : number_of c.rebuild.result ≡ 0 = search rules in
    let told = answered (goal.at.returns-clause-rebuilds c).After-rebuild e in
    let m = told.0 in
    taken k s e (sym z ∙ told.1)
    (lent_same
    (new p.luma.now (λ m. luma_square a.spot.x a.spot.y m r p.strides.luma p.luma.now) m z q.luma_after)
    (new p.cb.now (λ m. cb_square a.spot.x a.spot.y m r p.strides.cb p.cb.now) m z q.cb_after)
    (new p.cr.now (λ m. cr_square a.spot.x a.spot.y m r p.strides.cr p.cr.now) m z q.cr_after)
    refl (search rules)
    ∙ lent_rebuilt k p.luma.now p.cb.now p.cr.now a.done.now (progress_of a.progress.now))
