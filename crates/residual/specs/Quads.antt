-- A list taken 64 numbers at a time. Such a quad is four 4x4 blocks or one 8x8 block: a quarter of a macroblock's luma, or all of its Cb or Cr.
use Rattle.std.specs.Prelude.{◌≡◌, Bool, true, cond, List, [], ◌∷◌, ℕ, ◌+◌, ◌*◌, ◌/◌, ◌%◌, ◌<◌, eqb, ℤ, length}
use Rattle.laws.specs.Answer.{◌unless◌, answer}
use Rattle.laws.specs.Range.{at}
use Rattle.laws.specs.Table.{table, all_below}
use Rattle.numbers.specs.Numbers.{all_in_range, is_zero, is_small}

-- the mark of quad q: 0 where all its numbers are 0, 1 where all are small, else 2
unfoldable pub coded_quad : List ℤ → ℕ → ℕ
coded_quad l q = cond (all_below 64 (λ k. is_zero (at l (64 * q + k)))) 0 (cond (all_below 64 (λ k. is_small (at l (64 * q + k)))) 1 2)

-- those of all quads
abbrev pub coded_quads : List ℤ → List ℕ
coded_quads l = table (length l / 64) (coded_quad l)

-- ---- what the calls answer: 2 for other lengths
-- one that marks the quads of a list
abbrev pub mark_answer : (numbers marks : ℕ) → ℕ
mark_answer numbers marks = answer (2 unless eqb (numbers % 64) 0 ∷ 2 unless eqb (numbers / 64) marks ∷ [])

-- one that also puts the residuals of their blocks
abbrev pub blocks_answer : List ℤ → (places marks : ℕ) → ℕ
blocks_answer l places marks = answer (2 unless eqb (length l) places ∷ 2 unless eqb (length l % 64) 0 ∷ 2 unless eqb (length l / 64) marks ∷ [])

-- ---- 64 numbers as blocks of n: they are a few whole ones, and those that are good have their numbers in range
pub record InQuads (n : ℕ) (good : List ℤ → Bool) : Type 0 where
  pub blocks : ℕ
  pub some : 0 < n
  pub whole : n * blocks ≡ 64
  pub numbers : (d : List ℤ) → length d ≡ n → good d ≡ true → all_in_range d ≡ true
