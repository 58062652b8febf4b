-- A record that is not refused before its numbers are read: its lists have their lengths, and each luma mode and the chroma mode are ones that the predictors
-- do not refuse. These rules decide alone where they refuse; otherwise waiting does, and then the numbers. Assumes nothing.
use mathlib.Core.Path.{◌≡◌, sym, ap, ◌∙◌}
use mathlib.Core.Bool.{Bool, true, false, cond, ◌&&◌}
use mathlib.Core.List.{[], ◌∷◌}
use Prim.Native.Nat.{ℕ, ◌<◌}
use native.Mathlib.Omega.{arith}
use borrow.Author.Tests.{eqb-true, lt-ltb}
use lib.Dec.{eqb, leb}
use lib.ListN.{get_or, length}
use Rattle.laws.specs.Answer.{answer}
use Rattle.laws.specs.Table.{all_below}
use Rattle.laws.proofs.Answers.{holds, broken, passes, answer_later, answer_earlier}
use Rattle.laws.proofs.Tests.{and_left, and_right, all_at}
use Rattle.basics.specs.Marks.{permitted_chroma, mode_answer}
use Rattle.maps.specs.Neighbours.{Side}
use Rattle.maps.specs.Neighbours.Side.{A, B, D}
use Rattle.macroblock.specs.declared.Record.{Record}
use Rattle.cut.specs.Cut.{used}
use Rattle.cut.proofs.ByKind.{used_few}
use Rattle.macroblock.specs.Rules.{last_mode, mode_known, lists_good, known, permitted_at, permitted, permitted_rule, known_rule, numbers_rule, early_rules, wait_rule, rebuild_answer}
use Rattle.macroblock.specs.inner.Blocks.{mode_fine}

module _ (marks : Side → Bool) (r : Record) where
  pub record EarlyFine : Type 0 where
    pub sixteen : length r.modes ≡ 16
    pub all : length r.numbers ≡ 384
    pub luma : (k : ℕ) → k < used r.kind → mode_fine r.kind r.modes marks k ≡ 0
    pub chroma : mode_answer 3 (permitted_chroma (marks B) (marks A) (marks D)) r.chroma_mode ≡ 0

  -- a used mode that is known is at most the last
  pub used_known : (k : ℕ) → k < used r.kind → all_below 16 (mode_known r.kind r.modes) ≡ true → leb (get_or r.modes k 0) (last_mode r.kind) ≡ true
  used_known k h e =
      ap (λ t. cond t (leb (get_or r.modes k 0) (last_mode r.kind)) (eqb (get_or r.modes k 0) 0)) (sym (lt-ltb k (used r.kind) h))
      ∙ all_at 16 (mode_known r.kind r.modes) e k (omega (arith, used_few r.kind))

  pub early_fine : answer (early_rules marks r) ≡ 0 → EarlyFine
  unfolding lists_good known permitted
  early_fine e =
      let o = passes 1 (lists_good r) (known_rule r ∷ permitted_rule marks r ∷ []) e in
      let p = passes 5 (known r) (permitted_rule marks r ∷ []) o.1 in
      let q = passes 6 (permitted marks r) [] p.1 in
      let t₁ = leb r.kind 2 in let t₂ = all_below 16 (mode_known r.kind r.modes) in let t₃ = leb r.chroma_mode 3 in
      let t₄ = all_below (used r.kind) (permitted_at r.kind r.modes marks) in
      let t₅ = permitted_chroma (marks B) (marks A) (marks D) r.chroma_mode in
      record {
        sixteen = eqb-true (length r.modes) 16 (and_left (eqb (length r.modes) 16) (eqb (length r.numbers) 384) o.0);
        all = eqb-true (length r.numbers) 384 (and_right (eqb (length r.modes) 16) (eqb (length r.numbers) 384) o.0);
        luma = λ j h. rw (used_known j h (and_right t₁ t₂ (and_left (t₁ && t₂) t₃ p.0)), all_at (used r.kind) (permitted_at r.kind r.modes marks) (and_left t₄ t₅ q.0) j h);
        chroma = rw (and_right (t₁ && t₂) t₃ p.0, and_right t₄ t₅ q.0);
      }

  -- with room, the record decides: first its lists, its kind and its modes, where they are accepted whether it is ready, and then its numbers
  module _ (room ready : Bool) (e : room ≡ true) where
    pub early_decide : (answer (early_rules marks r) ≡ 0 → ⊥) → rebuild_answer room marks ready r ≡ answer (early_rules marks r)
    early_decide z = rw e (answer_earlier (early_rules marks r) (wait_rule ready ∷ numbers_rule r ∷ []) z)

    later : answer (early_rules marks r) ≡ 0 → rebuild_answer room marks ready r ≡ answer (wait_rule ready ∷ numbers_rule r ∷ [])
    later z = rw e (answer_later (early_rules marks r) (wait_rule ready ∷ numbers_rule r ∷ []) tt z)

    pub wait_decides : answer (early_rules marks r) ≡ 0 → ready ≡ false → rebuild_answer room marks ready r ≡ 5
    wait_decides z f = later z ∙ broken 5 (numbers_rule r ∷ []) f

    pub numbers_decide : answer (early_rules marks r) ≡ 0 → ready ≡ true → rebuild_answer room marks ready r ≡ answer (numbers_rule r ∷ [])
    numbers_decide z t = later z ∙ holds 5 (numbers_rule r ∷ []) t
