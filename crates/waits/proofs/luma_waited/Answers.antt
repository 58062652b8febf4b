-- `waits::luma_waited` meets its contract. The loop's invariant: who holds what the blocks passed read. Assumes nothing.
use mathlib.Core.Path.{◌≡◌, sym, ap, ◌∙◌}
use mathlib.Core.Bool.{Bool, ◌||◌}
use Prim.Native.Nat.{◌*◌}
use native.Mathlib.Omega.{arith}
use Rattle.laws.specs.Table.{some_below}
use Rattle.laws.proofs.Tests.{some_none, some_next}
use Rattle.maps.specs.Neighbours.{Side, marks_of}
use Rattle.cut.specs.Cut.{cut_for, sides_of}
use Rattle.cut.specs.Kind.{kind_number}
use Rattle.cut.proofs.ByKind.{scan_for, across_few, used_is}
use Rattle.reads.specs.Groups.{groups_of}
use Rattle.waits.specs.Waits.{holds_one, predictor_for}
use Rattle.waits.proofs.Holders.{no_marks}
use Rattle.waits.proofs.Reading.{reading}
use Rattle.waits.proofs.luma_waited.Goals as goal

both-same : {f g f' g' : Side → Bool} → f ≡ f' → g ≡ g' → ◌≡◌ {A = Side → Bool} (λ d. f d || g d) (λ d. f' d || g' d)
both-same e h = λ i d. e i d || h i d

pub loop-k-init : goal.loop-k-init
loop-k-init c = let a = c.args in
    no_marks c.default-all.ensures ∙ sym (λ i d. some_none (reading a.kind a.marks a.modes.now d) i)

pub block_waited-requires : goal.block_waited-requires
block_waited-requires c = let n = kind_number c.args.kind in
    record { scan = scan_for n; few = across_few n; one = omega (arith, c.loop-k-test.true, c.used_modes-k-end.ensures, used_is n) }

pub loop-k-preserved : goal.loop-k-preserved
loop-k-preserved c = let a = c.args in
    let k = c.loop-k.k in
    let n = kind_number a.kind in
    let m = (cut_for n).across in
    let here = c.block_waited.ensures
    ∙ ap (λ v. holds_one m k ((predictor_for n).reads (groups_of (sides_of m (marks_of a.marks) k)) v)) c.mode_at.ensures in
    c.join-all.ensures ∙ both-same c.loop-k.invariant here ∙ (λ i d. some_next k (reading a.kind a.marks a.modes.now d) i)

pub returns : goal.returns
returns c = let a = c.args in
    let n = kind_number a.kind in
    let e : c.loop-k.k ≡ (cut_for n).across * (cut_for n).across =
    omega (arith, c.loop-k-test.false, c.loop-k.auto.k-end, c.used_modes-k-end.ensures, used_is n) in
    c.loop-k.invariant ∙ (λ i d. some_below (e i) (reading a.kind a.marks a.modes.now d))
