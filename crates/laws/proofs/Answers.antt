-- The answer of a call, rule by rule: a rule that holds leaves what the later ones say, and one that does not gives its number. Assumes nothing.
use mathlib.Core.Path.{◌≡◌, refl, sym, ap, ◌∙◌}
use mathlib.Core.Bool.{Bool, true, false, not, cond, ◌&&◌}
use mathlib.Core.List.{List, [], ◌∷◌, ◌++◌}
use Prim.Native.Nat.{ℕ, zero, suc}
use native.Mathlib.Omega.{arith}
use lib.Dec.{T, eqb}
use borrow.Author.Tests.{eq-eqb}
use Rattle.laws.specs.Answer.{Check, ◌unless◌, answer, written}
use Rattle.laws.proofs.Tests.{T_true, not_both, both_left, both_right}

pub holds : {b : Bool} (n : ℕ) (cs : List Check) → b ≡ true → answer (n unless b ∷ cs) ≡ answer cs
holds {b} n cs e = rw e

pub broken : {b : Bool} (n : ℕ) (cs : List Check) → b ≡ false → answer (n unless b ∷ cs) ≡ n
broken {b} n cs e = rw e

-- the answer 0 says that the first rule holds, and that the others, which answer r, answer 0
pub passes_by : (n : ℕ) (b : Bool) (r : ℕ) → cond b r (suc n) ≡ 0 → (b ≡ true) × (r ≡ 0)
passes_by n true r e = (refl, e)
passes_by n false r e = absurd (omega arith)

pub passes : (n : ℕ) (b : Bool) (cs : List Check) → answer (suc n unless b ∷ cs) ≡ 0 → (b ≡ true) × (answer cs ≡ 0)
passes n b cs e = passes_by n b (answer cs) e

-- what a refused and what an accepted call leaves
pub kept : {A : Type 0} {r : ℕ} (k : ℕ) (old new : A) → r ≡ suc k → written r old new ≡ old
kept {A} {r} k old new e = rw e

pub refused : {A : Type 0} (r : ℕ) (old new : A) → (r ≡ 0 → ⊥) → written r old new ≡ old
refused zero old new h = absurd (h refl)
refused (suc r) old new h = refl

pub put : {A : Type 0} {r : ℕ} (old new : A) → r ≡ 0 → written r old new ≡ new
put {A} {r} old new e = rw e

-- an answer that is not 0, as code tests it
pub not_zero : (r : ℕ) → T (not (eqb r 0)) → ¬ (r ≡ 0)
not_zero zero t e = t
not_zero (suc r) t e = omega arith

-- ---- rules before others
-- no rule of a list has that number
abbrev pub without : ℕ → List Check → Bool
without n [] = true
without n (c ∷ cs) = not (eqb c.number n) && without n cs

-- so the list does not answer it
pub answer_without : (n : ℕ) (cs : List Check) → T (without (suc n) cs) → ¬ (answer cs ≡ suc n)
answer_without n [] t e = omega arith
answer_without n (c ∷ cs) t e = go c.holds (answer_without n cs (both_right (not (eqb c.number (suc n))) (without (suc n) cs) t)) e
  where
    go : (b : Bool) → ¬ (answer cs ≡ suc n) → ¬ (cond b (answer cs) c.number ≡ suc n)
    go true f g = f g
    go false f g =
        not_both (T_true (not (eqb c.number (suc n))) (both_left (not (eqb c.number (suc n))) (without (suc n) cs) t))
        (ap not (eq-eqb c.number (suc n) g))

-- rules that all hold leave the answer to the later ones
pub answer_later : (xs ys : List Check) → T (without 0 xs) → answer xs ≡ 0 → answer (xs ++ ys) ≡ answer ys
answer_later [] ys t e = refl
answer_later (c ∷ xs) ys t e = go c.holds c.number (answer_later xs ys) t e
  where
    go : (b : Bool) (n : ℕ) → (T (without 0 xs) → answer xs ≡ 0 → answer (xs ++ ys) ≡ answer ys) → T (not (eqb n 0) && without 0 xs) → cond b (answer xs) n ≡ 0
        → cond b (answer (xs ++ ys)) n ≡ answer ys
    go true n f u e = f (both_right (not (eqb n 0)) (without 0 xs) u) e
    go false zero f u e = absurd u
    go false (suc n) f u e = absurd (omega arith)

-- and one that is broken decides it
pub answer_earlier : (xs ys : List Check) → ¬ (answer xs ≡ 0) → answer (xs ++ ys) ≡ answer xs
answer_earlier [] ys n = absurd (n refl)
answer_earlier (c ∷ xs) ys n = go c.holds (answer_earlier xs ys) n
  where
    go : (b : Bool) → (¬ (answer xs ≡ 0) → answer (xs ++ ys) ≡ answer xs) → ¬ (cond b (answer xs) c.number ≡ 0)
        → cond b (answer (xs ++ ys)) c.number ≡ cond b (answer xs) c.number
    go true f m = f m
    go false f m = refl

-- an answer that they do not give says that they hold
pub earlier_hold : (r : ℕ) (xs ys : List Check) → (¬ (answer xs ≡ 0) → ¬ (answer xs ≡ r)) → answer (xs ++ ys) ≡ r → answer xs ≡ 0
earlier_hold r xs ys n e = go (answer xs) refl
  where
    go : (k : ℕ) → answer xs ≡ k → answer xs ≡ 0
    go zero f = f
    go (suc k) f =
        let m : ¬ (answer xs ≡ 0) = λ z. let y : ◌≡◌ {A = ℕ} (suc k) 0 = sym f ∙ z in omega arith in
        absurd (n m (sym (answer_earlier xs ys m) ∙ e))

-- a rule that holds can be left out
pub answer_without_rule : {b : Bool} (xs : List Check) (n : ℕ) (ys : List Check) → b ≡ true → answer (xs ++ (n unless b ∷ ys)) ≡ answer (xs ++ ys)
answer_without_rule [] n ys e = holds n ys e
answer_without_rule (x ∷ xs) n ys e = ap (λ r. cond x.holds r x.number) (answer_without_rule xs n ys e)
