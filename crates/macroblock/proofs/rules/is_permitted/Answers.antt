-- `macroblock::rules::is_permitted` meets its contract. Where left, above and corner are marked every known mode is permitted. The loop's invariant: the modes
-- passed are permitted. Assumes nothing.
use mathlib.Core.Path.{◌≡◌, sym, ap, ◌∙◌}
use native.Mathlib.Omega.{arith}
use Rattle.laws.specs.Table.{all_below}
use Rattle.laws.proofs.Tests.{all_none, all_more, all_no}
use Rattle.maps.specs.Neighbours.{marks_of}
use Rattle.cut.specs.Cut.{cut_for, used}
use Rattle.cut.specs.Kind.{kind_number}
use Rattle.cut.proofs.ByKind.{scan_for, across_few, used_is}
use Rattle.cut.proofs.Sides.{sides_are}
use Rattle.macroblock.specs.Kinds.{record_of}
use Rattle.macroblock.specs.Rules.{permitted_at, permitted}
use Rattle.macroblock.proofs.Marked.{all_permitted}
use Rattle.macroblock.proofs.rules.is_permitted.Goals as goal
use Rattle.macroblock.proofs.rules.is_permitted.Goals.{After-permits}

-- the code's test of block k is the definition's
tested : (c : After-permits) → let a = c.args in
    c.permits.result ≡ permitted_at (kind_number a.kind) a.modes.now (marks_of a.marks) c.loop-k.k
tested c = let kind = kind_number c.args.kind in
    let k = c.loop-k.k in
    let l = (scan_for kind).x_lt k (omega (arith, c.used_modes-k-end.ensures, used_is kind)) in
    c.permits.ensures ∙ rw (c.sides_of.ensures, c.across-m.ensures, sides_are (cut_for kind).across k (marks_of c.args.marks) l (across_few kind))

pub returns-then-marks-3 : goal.returns-then-marks-3
returns-then-marks-3 c numbers = let a = c.args in
    sym (all_permitted (marks_of a.marks) (record_of (kind_number a.kind) a.modes.now a.chroma_mode numbers) c.if-marks.true c.if-marks-2.true c.if-marks-3.true
    (c.requires.known numbers))

pub loop-k-init : goal.loop-k-init
loop-k-init c = all_none _

pub returns-then-not-permits : goal.returns-then-not-permits
unfolding permitted
returns-then-not-permits c numbers = let a = c.args in
    let kind = kind_number a.kind in
    rw (all_no (used kind) (permitted_at kind a.modes.now (marks_of a.marks)) c.loop-k.k (omega (arith, c.used_modes-k-end.ensures))
    (sym (tested (goal.at.returns-then-not-permits c).After-permits) ∙ c.if-not-permits.true))

pub loop-k-preserved : goal.loop-k-preserved
loop-k-preserved c = let a = c.args in
    all_more c.loop-k.k (permitted_at (kind_number a.kind) a.modes.now (marks_of a.marks)) c.loop-k.invariant
    (sym (tested (goal.at.loop-k-preserved c).After-permits) ∙ c.if-not-permits.false)

pub returns : goal.returns
unfolding permitted
returns c numbers = let a = c.args in
    let kind = kind_number a.kind in
    let e : c.loop-k.k ≡ used kind = omega (arith, c.used_modes-k-end.ensures) in
    rw (c.permits_chroma.ensures, c.square_sides.ensures, ap (λ c. all_below c (permitted_at kind a.modes.now (marks_of a.marks))) (sym e) ∙ c.loop-k.invariant)
