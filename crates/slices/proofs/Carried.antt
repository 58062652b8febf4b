-- The records that a run takes are a picture's: a macroblock is accepted once, and its record stays. Assumes nothing.
use mathlib.Core.Path.{◌≡◌, refl, sym, ap, subst, ◌∙◌}
use mathlib.Core.Bool.{cond}
use mathlib.Core.List.{List, [], ◌∷◌}
use Prim.Native.Nat.{ℕ, zero, suc}
use lib.Dec.{eqb}
use lib.ListN.{get_or}
use borrow.Author.Tests.{eqb-true, eq-eqb, ne_eqb}
use Rattle.laws.specs.Answer.{written}
use Rattle.laws.proofs.Tests.{choose}
use Rattle.order.specs.Driver.{after}
use Rattle.order.specs.Order.{Done}
use Rattle.order.proofs.Settled.{done_here, done_still}
use Rattle.maps.proofs.Waiting.{undone_is}
use Rattle.macroblock.specs.declared.Record.{Record}
use Rattle.calls.specs.Planes.{Plane}
use Rattle.calls.specs.Rebuild.{Call, Lent, here, answer_to}
use Rattle.calls.specs.Run.{Picture, offer, driver, Own}
use Rattle.calls.proofs.OnePicture.{accepted_passed}
use Rattle.slices.specs.LostSlice.{offer_with, OwnIn}
use Rattle.slices.proofs.Leaves.{by_answer, leaves, in_map}

-- a picture of the same size and slice map
abbrev pub variant : Picture → (Plane → ℕ) → (ℕ → Record) → Picture
variant g stride records = record { width = g.width; height = g.height; stride = stride; slices = g.slices; records = records }

abbrev put_record : (ℕ → Record) → ℕ → Record → ℕ → Record
put_record f a r b = cond (eqb b a) r (f b)

-- the records f, with those that a run takes put in
abbrev taking : Call → Lent → (ℕ → Record) → ℕ → Record
taking c s f = written (answer_to c s) f (put_record f (here c) c.mb)

pub carried : List Call → Lent → (ℕ → Record) → ℕ → Record
carried [] s f = f
carried (c ∷ cs) s f = carried cs (after driver c s) (taking c s f)

done_after_lem : (c : Call) (s : Lent) (a : ℕ) → Done s.done a → Done (after driver c s).done a
done_after_lem c s a d = by_answer c s (λ t. Done t.done a) (λ e. done_still s.done (here c) a (in_map c s e) d) d

-- of a done macroblock none is taken any more
carried_done : (cs : List Call) (s : Lent) (f : ℕ → Record) (a : ℕ) → Done s.done a → carried cs s f a ≡ f a
unfolding carried
carried_done [] s f a d = refl
carried_done (c ∷ cs) s f a d = carried_done cs (after driver c s) (taking c s f) a (done_after_lem c s a d) ∙ go (answer_to c s) refl
  where
    go : (r : ℕ) → answer_to c s ≡ r → written r f (put_record f (here c) c.mb) a ≡ f a
    go zero e = rw (ne_eqb a (here c) (λ k. undone_is s.done (here c) (accepted_passed c s e).undone (subst (Done s.done) k d)))
    go (suc r) e = refl

module _ (σ : ℕ) (g : Picture) where
  -- with them the run's calls carry their own records
  pub carried_own : (cs : List Call) (s : Lent) (f : ℕ → Record) → OwnIn σ g cs s → Own (variant g g.stride (carried cs s f)) cs s
  unfolding carried
  carried_own [] s f o = tt
  carried_own (c ∷ cs) s f o = (own, carried_own cs (after driver c s) (taking c s f) o.1)
    where
      took : answer_to c s ≡ 0 → carried (c ∷ cs) s f (here c) ≡ c.mb
      took e =
          carried_done cs (after driver c s) (taking c s f) (here c)
          (subst (λ t. Done t.done (here c)) (sym (leaves c s e)) (done_here s.done (here c) (in_map c s e)))
          ∙ ap (λ r. written r f (put_record f (here c) c.mb) (here c)) e ∙ rw (eq-eqb (here c) (here c) refl)

      own : answer_to c s ≡ 0 → c ≡ offer (variant g g.stride (carried (c ∷ cs) s f)) (here c)
      own e = (o.0 e).0 ∙ ap (offer_with g (here c)) (sym (took e))

  -- in the slice they are the picture's
  pub carried_in : (cs : List Call) (s : Lent) (f : ℕ → Record) → OwnIn σ g cs s → (a : ℕ) → get_or g.slices a 0 ≡ σ → f a ≡ g.records a → carried cs s f a ≡ g.records a
  unfolding carried
  carried_in [] s f o a k e = e
  carried_in (c ∷ cs) s f o a k e = carried_in cs (after driver c s) (taking c s f) o.1 a k (go (answer_to c s) refl)
    where
      go : (r : ℕ) → answer_to c s ≡ r → written r f (put_record f (here c) c.mb) a ≡ g.records a
      go zero z =
          choose (λ v. v ≡ g.records a) (eqb a (here c)) c.mb (f a)
          (λ t. let i : a ≡ here c = eqb-true a (here c) t in (o.0 z).1 (ap (λ n. get_or g.slices n 0) (sym i) ∙ k) ∙ ap g.records (sym i))
          (λ _. e)
      go (suc r) z = e
