-- `waits::luma_ready` meets its contract. The loop's invariant: those are done that hold what the blocks passed read. Assumes nothing.
use mathlib.Core.Path.{◌≡◌, sym, ap, ◌∙◌}
use mathlib.Core.Bool.{Bool, ◌||◌}
use Prim.Native.Nat.{◌+◌, ◌*◌}
use native.Mathlib.Omega.{arith}
use Rattle.laws.specs.Table.{some_below}
use Rattle.laws.proofs.Tests.{not_both, no_from, and_of, some_none, some_next, some_of}
use Rattle.maps.specs.Done.{all_settled}
use Rattle.maps.specs.Neighbours.{Side, marks_of}
use Rattle.maps.proofs.Waiting.{settled_is, settled_yes, settled_no, settled_either}
use Rattle.cut.specs.Cut.{cut_for, sides_of}
use Rattle.cut.specs.Kind.{kind_number}
use Rattle.cut.proofs.ByKind.{scan_for, across_few, used_is}
use Rattle.reads.specs.Groups.{groups_of}
use Rattle.waits.specs.Waits.{holds_one, predictor_for}
use Rattle.waits.proofs.Reading.{reading}
use Rattle.waits.proofs.luma_ready.Goals as goal
use Rattle.waits.proofs.luma_ready.Goals.{After-ready}

-- whether those of block k are done, as it was told
block_is : (c : After-ready) → let a = c.args in
    all_settled a.spot.w a.spot.x a.spot.y (λ d. reading a.kind a.marks a.modes.now d c.loop-k.k) a.done.now ≡ c.ready.result
block_is c = let a = c.args in
    let n = kind_number a.kind in
    let m = (cut_for n).across in
    let here = c.block_waited-for_block.ensures
    ∙ ap (λ v. holds_one m c.loop-k.k ((predictor_for n).reads (groups_of (sides_of m (marks_of a.marks) c.loop-k.k)) v)) c.mode_at.ensures in
    sym (c.ready.ensures ∙ ap (λ s. all_settled a.spot.w a.spot.x a.spot.y s a.done.now) here)

pub loop-k-init : goal.loop-k-init
loop-k-init c = let a = c.args in
    settled_yes a.spot.w a.spot.x a.spot.y _ a.done.now (λ d e. absurd (not_both e (some_none (reading a.kind a.marks a.modes.now d))))

pub block_waited-for_block-requires : goal.block_waited-for_block-requires
block_waited-for_block-requires c = let n = kind_number c.args.kind in
    record { scan = scan_for n; few = across_few n; one = omega (arith, c.loop-k-test.true, c.used_modes-k-end.ensures, used_is n) }

pub returns-then-not-ready : goal.returns-then-not-ready
returns-then-not-ready c = let a = c.args in
    let f = reading a.kind a.marks a.modes.now in
    let n = kind_number a.kind in
    let m = (cut_for n).across in
    let one = settled_no a.spot.w a.spot.x a.spot.y (λ d. f d c.loop-k.k) a.done.now
    (block_is (goal.at.returns-then-not-ready c).After-ready ∙ c.if-not-ready.true) in
    sym (no_from _ (λ e. settled_is a.spot.w a.spot.x a.spot.y (λ d. some_below (m * m) (f d)) a.done.now e one.0
    (some_of (m * m) (f one.0) c.loop-k.k (omega (arith, c.loop-k-test.true, c.used_modes-k-end.ensures, used_is n)) one.1)) one.2)

pub loop-k-preserved : goal.loop-k-preserved
loop-k-preserved c = let a = c.args in
    let f = reading a.kind a.marks a.modes.now in
    let k = c.loop-k.k in
    let settled : (Side → Bool) → Bool = λ s. all_settled a.spot.w a.spot.x a.spot.y s a.done.now in
    let grown : ◌≡◌ {A = Side → Bool} (λ d. some_below (k + 1) (f d)) (λ d. some_below k (f d) || f d k) = sym (λ i d. some_next k (f d) i) in
    ap settled grown ∙ settled_either a.spot.w a.spot.x a.spot.y (λ d. some_below k (f d)) (λ d. f d k) a.done.now
    ∙ and_of (block_is (goal.at.loop-k-preserved c).After-ready ∙ c.if-not-ready.false) c.loop-k.invariant

pub returns : goal.returns
returns c = let a = c.args in
    let n = kind_number a.kind in
    let m = (cut_for n).across in
    let e : m * m ≡ c.loop-k.k = omega (arith, c.loop-k-test.false, c.loop-k.auto.k-end, c.used_modes-k-end.ensures, used_is n) in
    sym (ap (λ j. all_settled a.spot.w a.spot.x a.spot.y (λ d. some_below j (reading a.kind a.marks a.modes.now d)) a.done.now) e ∙ c.loop-k.invariant)
