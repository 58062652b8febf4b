-- Which modes the marks of above, left and corner permit (clauses 8.3.1.2, 8.3.2.2, 8.3.3 and 8.3.4: a mode is used only where its samples are
-- marked as available), and the numbers of the predictors' answers.
use Rattle.std.specs.Prelude.{◌≡◌, Bool, true, false, cond, ◌&&◌, ◌||◌, [], ◌∷◌, ℕ, ◌*◌, ◌/◌, ◌%◌, ◌^◌, eqb, ltb, leb}
use Rattle.laws.specs.Answer.{◌unless◌, answer}
use Rattle.laws.specs.Table.{sum_of}

-- 4x4 and 8x8: 0, 3, 7 need above; 1, 8 left; 2 nothing; 4, 5, 6 above, left and corner
abbrev pub permitted_nxn : Bool → Bool → Bool → ℕ → Bool
permitted_nxn above left corner m =
    cond (eqb m 0 || eqb m 3 || eqb m 7) above
    (cond (eqb m 1 || eqb m 8) left
    (cond (eqb m 2) true
    (cond (eqb m 4 || eqb m 5 || eqb m 6) (above && left && corner)
    false)))

-- 16x16: 0 needs above, 1 left, 2 nothing, 3 above, left and corner
abbrev pub permitted16x16 : Bool → Bool → Bool → ℕ → Bool
permitted16x16 above left corner m =
    cond (eqb m 0) above (cond (eqb m 1) left (cond (eqb m 2) true (cond (eqb m 3) (above && left && corner) false)))

-- chroma: 0 needs nothing, 1 left, 2 above, 3 above, left and corner
abbrev pub permitted_chroma : Bool → Bool → Bool → ℕ → Bool
permitted_chroma above left corner m =
    cond (eqb m 0) true (cond (eqb m 1) left (cond (eqb m 2) above (cond (eqb m 3) (above && left && corner) false)))

-- bit m of a number, 0 or 1
abbrev pub bit : ℕ → ℕ → ℕ
bit s m = s / 2 ^ m % 2

-- a set of modes below n as one number: bit m for mode m, other bits 0
unfoldable pub mode_set : ℕ → (ℕ → Bool) → ℕ
mode_set n permitted = sum_of n (λ m. cond (permitted m) (2 ^ m) 0)

-- what such a number says: bit m is 1 exactly where m is below n and in the set
pub record BitOfSet : Type 0 where
  pub says : (n : ℕ) (permitted : ℕ → Bool) (m : ℕ) → bit (mode_set n permitted) m ≡ cond (ltb m n && permitted m) 1 0

-- a predictor's answer: 6 for a mode above the last, 7 for one that is not permitted
abbrev pub mode_answer : ℕ → (ℕ → Bool) → ℕ → ℕ
mode_answer last permitted mode = answer (6 unless leb mode last ∷ 7 unless permitted mode ∷ [])

-- the answer of one that is handed lists, by their lengths: 2 unless there are `wide` samples above, n left and n * n in the block, and then the same
abbrev pub lists_answer : ℕ → ℕ → ℕ → ℕ → ℕ → ℕ
lists_answer n wide above left lent = answer (2 unless eqb above wide ∷ 2 unless eqb left n ∷ 2 unless eqb lent (n * n) ∷ [])

abbrev pub pred_answer : ℕ → ℕ → ℕ → ℕ → ℕ → ℕ → (ℕ → Bool) → ℕ → ℕ
pred_answer n wide above left lent last permitted mode =
    answer (2 unless eqb above wide ∷ 2 unless eqb left n ∷ 2 unless eqb lent (n * n) ∷ 6 unless leb mode last ∷ 7 unless permitted mode ∷ [])
