-- `waits::waited` meets its contract: luma and chroma; that it depends on no other is `narrow`. Assumes nothing.
use mathlib.Core.Path.{sym, ap, ap₂, ◌∙◌}
use mathlib.Core.Bool.{◌||◌}
use lib.ListN.{get_or}
use Rattle.maps.specs.Neighbours.{marks_of}
use Rattle.cut.specs.Cut.{Cut}
use Rattle.macroblock.specs.Kinds.{record_of}
use Rattle.reads.specs.Exactly.{Predictor}
use Rattle.waits.specs.Waits.{predictor_for, square_reads}
use Rattle.waits.proofs.Reading.{predictor_lesser}
use Rattle.waits.proofs.Narrow.{waits_is, narrow}
use Rattle.waits.proofs.waited.Goals as goal

pub returns : goal.returns
returns c = let a = c.args in
    let luma = λ (P : Predictor) (n : Cut). square_reads P n.across (marks_of a.marks) (λ k. get_or a.rec.modes.now k 0) in
    let told = c.luma_waited.ensures ∙ ap₂ luma (ap predictor_for c.of.ensures.lesser ∙ predictor_lesser a.rec.kind) c.of.ensures.same_cut in record {
      result_value = (λ numbers.
          c.join.ensures
          ∙ (λ i d. told i d || c.chroma_waited.ensures i d)
          ∙ sym (waits_is (marks_of a.marks) (record_of a.rec.kind a.rec.modes.now a.rec.chroma_mode numbers)));
      all_narrow = narrow;
    }
