-- A result lasts: what it was computed from is done, and a step that is done keeps what it holds, whatever steps are taken after it. Assumes nothing.
use mathlib.Core.Path.{◌≡◌, refl, sym, ap, subst, ◌∙◌}
use mathlib.Core.List.{List, [], ◌∷◌}
use Prim.Native.Nat.{ℕ, ◌<◌}
use native.Mathlib.Nat.{lt_trans}
use lib.ListN.{length, set, length-set}
use borrow.Author.Tests.{eq-eqb}
use Rattle.order.specs.Driver.{Fair, play, taken_by}
use Rattle.order.specs.Order.{Alike, Laws, Done, Ready, build, Permitted}
use Rattle.order.proofs.Driver.{Ran, ran}
use Rattle.order.proofs.Settled.{done_still, elsewhere, ok_run}
use Rattle.maps.specs.Progress.{start_answer}
use Rattle.maps.proofs.Sizes.{size_yes}
use Rattle.calls.specs.Planes.{side}
use Rattle.calls.specs.Rebuild.{Call, Lent, here, Acceptable, answer_to}
use Rattle.calls.specs.Run.{Picture, total_of, offer, Waits, Lends, sample_at, driver, Own}
use Rattle.calls.proofs.AnyOrder.{own_offers, still_taken}
use Rattle.calls.proofs.Lending.{plane_yes}
use Rattle.calls.proofs.OnePicture.{view, accepted_passed, fair, step, offer_here, Depends, carries, laws}
use Rattle.calls.proofs.Rules.{Passed, passed_0, first_0, ready_0, by_record}
use Rattle.halves.specs.Halves.{samples_of, committed}
use Rattle.halves.specs.Lasting.{Lasting}
use Rattle.halves.proofs.InTwo.{in_two, commit_accepts}
use Rattle.halves.proofs.Samples.{samples_alike}

-- ---- steps
module _ {M I X : Type 0} {at : M → I → X} {ok : M → Type 0} {n : ℕ} {R : ℕ → I → Type 0} {N : ℕ → ℕ → Type 0} {step : ℕ → M → M}
    (L : Laws at ok n R N step) where
  -- a step that is done keeps what its region holds
  done_held : (o : List ℕ) (p : M) (d : List ℕ) → ok p → length d ≡ n → Permitted n N o d → (b : ℕ) → b < n → Done d b → Alike at (R b) p (build step o p)
  done_held [] p d k len t b hb e i r = refl
  done_held (a ∷ o) p d k len t b hb e i r =
      elsewhere L a b p t.0 hb k (λ q. t.1 (rw q at e)) i r
      ∙ done_held o (step a p) (set d a 1) (L.keeps a p t.0 k) (length-set d a 1 ∙ len) t.3 b hb (done_still d a b (rw len t.0) e) i r

  -- so one that is ready writes the same after others
  ready_held : (a : ℕ) → a < n → (o : List ℕ) (p : M) (d : List ℕ) → ok p → length d ≡ n → Permitted n N o d → Ready N d a
      → Alike at (R a) (step a p) (step a (build step o p))
  ready_held a ha o p d k len t ready =
      L.reads a p (build step o p) ha k (ok_run L o p d k t) (λ b w. done_held o p d k len t b (lt_trans (L.earlier a b ha w) ha) (ready b w))

-- ---- a macroblock that is accepted in state s
module _ (g : Picture) (a : ℕ) (s : Lent) (e : answer_to (offer g a) s ≡ 0) where
  passed : Passed (offer g a) s
  passed = accepted_passed (offer g a) s e

  -- what is lent is large enough
  lends : Lends g s
  unfolding start_answer
  lends = record {
    starts = rw (size_yes g.width g.height passed.size, eq-eqb (length s.done) (total_of g) passed.room.done_long);
    planes = λ p. plane_yes (side p) g.width g.height (g.stride p) (length (s.planes p)) (passed.room.planes p);
    slices = passed.room.slices_long;
  }

  fairly : Fair driver view (total_of g) here Waits
  fairly = fair (total_of g)

  good_record : Acceptable (offer g a)
  good_record = sym (by_record (offer g a) s (first_0 (offer g a) s (passed_0 (offer g a) s e)) (ready_0 (offer g a) s e)) ∙ e

  inside : a < total_of g
  inside = subst (λ n. n < total_of g) (offer_here g a) (fairly.takes (offer g a) s e passed.room.done_long).0

  waited : (b : ℕ) → Waits (offer g a) b → Done s.done b
  waited = (fairly.takes (offer g a) s e passed.room.done_long).2

  ready : Ready (Depends g) s.done a
  ready b w = waited b (((carries g (offer g a ∷ []) s (own_offers g (a ∷ []) s)).0 e).awaits b (subst (λ n. Depends g n b) (sym (offer_here g a)) w))

  -- after more calls
  module _ (cs : List Call) where
    still : ¬ Done (play driver cs s).done a → answer_to (offer g a) (play driver cs s) ≡ 0
    still = still_taken g s lends passed.room.done_long passed.room.few a inside good_record waited cs

    same : Own g cs s → samples_of (offer g a) (play driver cs s).planes ≡ samples_of (offer g a) s.planes
    same own =
        sym (samples_alike (offer g a) s.planes passed.room.planes passed.place (play driver cs s).planes (λ p i t.
        ready_held (laws g s lends) a inside (taken_by driver here cs s) s.planes s.done (λ q. refl) passed.room.done_long went.permitted ready (p, i) t
        ∙ ap (λ m. sample_at (step g a m) (p, i)) (sym went.memory)))
      where
        went : Ran fairly (step g) (Depends g) cs s
        went = ran fairly (step g) (Depends g) cs s passed.room.done_long (carries g cs s own)

pub lasting : (g : Picture) → Lasting g
lasting g = record {
  still = λ a cs s e. still g a s e cs;
  same = λ a cs s e. same g a s e cs;
  accepted = λ a cs s e u.
      commit_accepts (offer g a) (samples_of (offer g a) s.planes) (play driver cs s) (in_two.long (offer g a) s.planes) (still g a s e cs u);
  stale = λ a cs s e own u.
      ap (λ block. committed (offer g a) block (play driver cs s)) (sym (same g a s e cs own))
      ∙ in_two.whole (offer g a) (play driver cs s) (still g a s e cs u);
}
