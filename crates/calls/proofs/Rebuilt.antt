-- A macroblock call's promise, way by way: refused by the first rules, by those that the macroblock call tests, or accepted. Assumes nothing.
use mathlib.Core.Path.{◌≡◌, refl, sym, ap, ◌∙◌}
use mathlib.Core.List.{List}
use Prim.Native.Nat.{ℕ}
use lib.ListN.{set}
use Rattle.laws.specs.Answer.{answer}
use Rattle.laws.proofs.Answers.{refused}
use Rattle.maps.specs.Progress.{accepted_of}
use Rattle.maps.specs.Size.{total}
use Rattle.maps.specs.declared.progress.Progress.{Progress}
use Rattle.calls.specs.Planes.{Plane, three}
use Rattle.calls.specs.Planes.Plane.{luma, cb, cr}
use Rattle.calls.specs.Rebuild.{Call, Lent, lent, here, first, square_in, rebuilt, Rebuilds}
use Rattle.calls.proofs.Rules.{refused_by, late_rules, late_answer}

module _ (c : Call) (s : Lent) where
  pub refused_first : {r : ℕ} → r ≡ first c s → ¬ (r ≡ 0) → Rebuilds c s r s
  refused_first {r} e n = record { answers = e ∙ sym (refused_by c s (λ z. n (e ∙ z))); leaves = sym (refused r s (rebuilt c s) n) }

  pub refused_late : {r : ℕ} {t : Lent} → first c s ≡ 0 → r ≡ answer (late_rules c s) → ¬ (r ≡ 0) → t ≡ s → Rebuilds c s r t
  refused_late {r} e a n same = record { answers = a ∙ sym (late_answer c s e); leaves = same ∙ sym (refused r s (rebuilt c s) n) }

  pub taken : {t : Lent} → first c s ≡ 0 → 0 ≡ answer (late_rules c s) → t ≡ rebuilt c s → Rebuilds c s 0 t
  taken e a done = record { answers = a ∙ sym (late_answer c s e); leaves = done }

-- what is lent, piece by piece
pub lent_same : {l l' b b' r r' d d' : List ℕ} {p p' : Progress} → l ≡ l' → b ≡ b' → r ≡ r' → d ≡ d' → p ≡ p' → lent l b r d p ≡ lent l' b' r' d' p'
lent_same e f g h k = cc

-- lent whose planes a step has changed, one by one
pub lent_by : (f : Plane → List ℕ → List ℕ) (l b r d : List ℕ) (p : Progress)
    → lent (f luma l) (f cb b) (f cr r) d p ≡ record { planes = λ q. f q (three l b r q); done = d; progress = p }
lent_by f l b r d p = ap (λ g. record { planes = g; done = d; progress = p }) (λ i q. each q i)
  where
    each : (q : Plane) → three (f luma l) (f cb b) (f cr r) q ≡ f q (three l b r q)
    each luma = refl
    each cb = refl
    each cr = refl

pub lent_rebuilt : (c : Call) (l b r d : List ℕ) (p : Progress)
    → lent (square_in c luma l) (square_in c cb b) (square_in c cr r) (set d (here c) 1) (accepted_of p (here c) (total c.width c.height)) ≡ rebuilt c (lent l b r d p)
lent_rebuilt c l b r d p = lent_by (square_in c) l b r (set d (here c) 1) (accepted_of p (here c) (total c.width c.height))
