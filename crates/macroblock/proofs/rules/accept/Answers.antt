-- `macroblock::rules::accept` meets its contract: the first rule that does not hold decides. Assumes nothing.
use mathlib.Core.Path.{◌≡◌, sym, ap, ◌∙◌}
use mathlib.Core.Bool.{true, false}
use borrow.Author.Tests.{eq-eqb, ne_eqb, lt-leb}
use Rattle.std.proofs.Common.{rules}
use Rattle.refusals.specs.Refusal.{number_of}
use Rattle.maps.specs.Neighbours.{marks_of}
use Rattle.macroblock.specs.Kinds.{record_of, record_in}
use Rattle.macroblock.specs.Rules.{lists_good, known, permitted}
use Rattle.macroblock.proofs.rules.accept.Goals as goal
use Rattle.macroblock.proofs.rules.accept.Goals.{Else-rec-ne384, Else-not-is_known, then-rec-ne16-via-then-rec-ne16, then-rec-ne16-via-else-rec-ne16+then-rec-ne384}

listed : (c : Else-rec-ne384) → lists_good (record_in c.args.rec) ≡ true
unfolding lists_good
listed c = rw (eq-eqb _ 16 c.if-rec-ne16.false, eq-eqb _ 384 c.if-rec-ne384.false)

known-is : (c : Else-not-is_known) → known (record_in c.args.rec) ≡ true
known-is c = let a = c.args.rec in
    ap (λ kind. known (record_of kind a.modes.now a.chroma_mode a.numbers.now)) (sym c.in_ok-kind.ensures) ∙ sym (c.is_known.ensures a.numbers.now) ∙ c.if-not-is_known.false

pub returns-then-rec-ne16-clause-value : goal.returns-then-rec-ne16-clause-value
unfolding lists_good
returns-then-rec-ne16-clause-value c = elim c.then-rec-ne16.branch [
  | then-rec-ne16-via-then-rec-ne16 w ↦ rw (ne_eqb _ 16 w.if-rec-ne16.true)
  | then-rec-ne16-via-else-rec-ne16+then-rec-ne384 w ↦ rw (eq-eqb _ 16 w.if-rec-ne16.false, ne_eqb _ 384 w.if-rec-ne384.true)
]

pub returns-in_err-kind-clause-value : goal.returns-in_err-kind-clause-value
unfolding known
returns-in_err-kind-clause-value c =
    let six : number_of c.from_residual.result ≡ 6 = search rules in
    six ∙ rw (listed (goal.at.returns-in_err-kind-clause-value c).Else-rec-ne384, lt-leb c.args.rec.kind 2 c.in_err-kind.ensures.1)

pub returns-then-not-is_known-clause-value : goal.returns-then-not-is_known-clause-value
returns-then-not-is_known-clause-value c = let a = c.args.rec in
    let unknown : known (record_in a) ≡ false = ap (λ kind. known (record_of kind a.modes.now a.chroma_mode a.numbers.now)) (sym c.in_ok-kind.ensures)
    ∙ sym (c.is_known.ensures a.numbers.now) ∙ c.if-not-is_known.true in
    rw (listed (goal.at.returns-then-not-is_known-clause-value c).Else-rec-ne384, unknown)

pub returns-then-not-is_permitted-clause-value : goal.returns-then-not-is_permitted-clause-value
returns-then-not-is_permitted-clause-value c = let a = c.args.rec in
    let permits : permitted (marks_of c.args.marks) (record_in a) ≡ false =
    ap (λ kind. permitted (marks_of c.args.marks) (record_of kind a.modes.now a.chroma_mode a.numbers.now)) (sym c.in_ok-kind.ensures)
    ∙ sym (c.is_permitted.ensures a.numbers.now) ∙ c.if-not-is_permitted.true in
    let at = goal.at.returns-then-not-is_permitted-clause-value c in
    rw (listed at.Else-rec-ne384, known-is at.Else-not-is_known, permits)

pub returns-clause-value : goal.returns-clause-value
returns-clause-value c = let a = c.args.rec in
    let permits : permitted (marks_of c.args.marks) (record_in a) ≡ true =
    ap (λ kind. permitted (marks_of c.args.marks) (record_of kind a.modes.now a.chroma_mode a.numbers.now)) (sym c.in_ok-kind.ensures)
    ∙ sym (c.is_permitted.ensures a.numbers.now) ∙ c.if-not-is_permitted.false in
    let at = goal.at.returns-clause-value c in
    rw (listed at.Else-rec-ne384, known-is at.Else-not-is_known, permits)
