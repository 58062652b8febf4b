-- `macroblock::decode` meets its contract: every square lies in its plane and no mode is refused, so the numbers alone decide, before anything is written; where
-- they are in range the residuals are the definition's. Assumes nothing.
use mathlib.Core.Path.{◌≡◌, refl, sym, ap, ◌∙◌, subst}
use mathlib.Core.Bool.{cond, ◌&&◌}
use lib.ListN.{length}
use Rattle.std.proofs.Common.{rules}
use Rattle.refusals.specs.Refusal.{number, number_of}
use Rattle.maps.specs.Neighbours.{marks_of}
use Rattle.macroblock.specs.Kinds.{record_in}
use Rattle.macroblock.specs.Rules.{luma_in_range, chroma_in_range, numbers_good}
use Rattle.macroblock.specs.inner.Blocks.{LumaReady}
use Rattle.macroblock.proofs.Early.{EarlyFine, early_fine}
use Rattle.macroblock.proofs.Rooms.{AllStand, all_stand}
use Rattle.macroblock.proofs.decode.Goals as goal
use Rattle.macroblock.proofs.decode.Goals.{Start}

-- what is known of it and of its squares
fine : (c : Start) → EarlyFine (marks_of c.args.spot.marks) (record_in c.args.rec)
fine c = early_fine (marks_of c.args.spot.marks) (record_in c.args.rec) c.requires.record_value

stand : (c : Start) → let a = c.args in
    AllStand a.spot.x a.spot.y (length a.planes.now.luma.now) (length a.planes.now.cb.now) (length a.planes.now.cr.now) a.spot.strides (marks_of a.spot.marks)
stand c = all_stand _ _ _ _ _ _ (marks_of c.args.spot.marks) c.requires.rooms_value

pub residuals_of-requires : goal.residuals_of-requires
residuals_of-requires c = ((fine (goal.at.residuals_of-requires c).Start).all, refl, refl)

pub all_squares-requires : goal.all_squares-requires
all_squares-requires c = let f = fine (goal.at.all_squares-requires c).Start in
    let s = stand (goal.at.all_squares-requires c).Start in
    let a = c.args in
    record {
      luma_ready = subst (λ n. LumaReady n a.spot (length a.planes.now.luma.now) a.rec.modes.now) (sym c.requires.kind_value)
          (record { stands = s.luma; fine = f.luma; sixteen = f.sixteen });
      cb_ready = record { stands = s.cb; fine = f.chroma };
      cr_ready = record { stands = s.cr; fine = f.chroma };
    }

pub returns-in_err-residuals_of-clause-value : goal.returns-in_err-residuals_of-clause-value
unfolding numbers_good
returns-in_err-residuals_of-clause-value c = let l = c.args.rec.numbers.now in
    let e : number_of c.from_residual.result ≡ number c.in_err-residuals_of.field-0.0 = search rules in
    e ∙ c.in_err-residuals_of.ensures.value ∙ ap (λ n. cond (luma_in_range n l && chroma_in_range l) 0 8) c.requires.kind_value

pub returns-clause-value : goal.returns-clause-value
unfolding numbers_good
returns-clause-value c = let l = c.args.rec.numbers.now in
    c.in_ok-residuals_of.ensures.value ∙ ap (λ n. cond (luma_in_range n l && chroma_in_range l) 0 8) c.requires.kind_value
