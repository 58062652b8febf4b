-- `waits::is_ready` meets its contract: only marked neighbours are waited for, so that where all of these are done it is ready. Assumes nothing.
use mathlib.Core.Path.{◌≡◌, sym, ap, ap₂, ◌∙◌}
use lib.ListN.{get_or}
use Rattle.maps.specs.Done.{all_settled}
use Rattle.maps.specs.Neighbours.{marks_of}
use Rattle.maps.proofs.Waiting.{settled_is, settled_yes}
use Rattle.macroblock.specs.Kinds.{record_of}
use Rattle.cut.specs.Cut.{Cut}
use Rattle.reads.specs.Exactly.{Predictor, chroma8x8}
use Rattle.waits.specs.Waits.{predictor_for, square_reads, waits}
use Rattle.waits.proofs.Reading.{predictor_lesser}
use Rattle.waits.proofs.Narrow.{chroma_waits, luma_decides, waits_marked}
use Rattle.waits.proofs.is_ready.Goals as goal
use Rattle.waits.proofs.is_ready.Goals.{After-ready-else-ready}

-- whether those are done that chroma waits for, as it was told
chroma-is : (c : After-ready-else-ready) → let a = c.args in
    all_settled a.spot.w a.spot.x a.spot.y (square_reads chroma8x8 1 (marks_of a.marks) (λ _. a.rec.chroma_mode)) a.done.now ≡ c.ready-else-ready.result
chroma-is c = let a = c.args in
    sym (c.ready-else-ready.ensures ∙ ap (λ m. all_settled a.spot.w a.spot.x a.spot.y m a.done.now) c.chroma_waited.ensures)

pub returns-then-ready : goal.returns-then-ready
returns-then-ready c numbers = let a = c.args in
    let m = record_of a.rec.kind a.rec.modes.now a.rec.chroma_mode numbers in
    let all = settled_is a.spot.w a.spot.x a.spot.y (marks_of a.marks) a.done.now (sym c.ready.ensures ∙ c.if-ready.true) in
    c.if-ready.true
    ∙ sym (settled_yes a.spot.w a.spot.x a.spot.y (waits (marks_of a.marks) m) a.done.now (λ d w. all d (waits_marked (marks_of a.marks) m d w)))

pub returns-else-ready-2 : goal.returns-else-ready-2
returns-else-ready-2 c numbers = let a = c.args in
    let m = record_of a.rec.kind a.rec.modes.now a.rec.chroma_mode numbers in
    c.if-ready-2.false
    ∙ sym (chroma_waits (marks_of a.marks) m a.spot.w a.spot.x a.spot.y a.done.now
    (chroma-is (goal.at.returns-else-ready-2 c).After-ready-else-ready ∙ c.if-ready-2.false))

pub returns-then-ready-2 : goal.returns-then-ready-2
returns-then-ready-2 c numbers = let a = c.args in
    let m = record_of a.rec.kind a.rec.modes.now a.rec.chroma_mode numbers in
    let luma = λ (P : Predictor) (n : Cut).
    all_settled a.spot.w a.spot.x a.spot.y (square_reads P n.across (marks_of a.marks) (λ k. get_or a.rec.modes.now k 0)) a.done.now in
    c.luma_ready.ensures
    ∙ ap₂ luma (ap predictor_for c.of.ensures.lesser ∙ predictor_lesser a.rec.kind) c.of.ensures.same_cut
    ∙ sym (luma_decides (marks_of a.marks) m a.spot.w a.spot.x a.spot.y a.done.now
    (chroma-is (goal.at.returns-then-ready-2 c).After-ready-else-ready ∙ c.if-ready-2.true))
