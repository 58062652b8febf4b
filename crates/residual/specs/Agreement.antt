-- How the forms of picture construction agree, stated over their definitions.
use Rattle.std.specs.Prelude.{◌≡◌, Bool, true, List, ◌∷◌, ℕ, ◌+◌, ◌*◌, ◌<◌, ℤ, pos, length, get_or, replicate}
use Rattle.laws.specs.Answer.{written}
use Rattle.laws.specs.Table.{block_of}
use Rattle.numbers.specs.Numbers.{in_range, all_in_range, last_in_range}
use Rattle.residual.specs.Inverse.{rounded, inverse4x4, in_range4x4}
use Rattle.residual.specs.Reconstruct.{sums, put_square, sum_in, into_room, into_answer}

-- a coefficient at place 0, and 0 elsewhere
abbrev pub lone : ℤ → List ℤ
lone v = v ∷ replicate 15 (pos 0)

-- what a call on sixteen numbers that writes into a plane answers, and what it leaves there
abbrev pub into : Bool → List ℤ → List ℕ → ℕ → ℕ → List ℕ → ℕ → ℕ → ℕ × List ℕ
into numbers res pred pred_off pred_stride rec rec_off rec_stride =
    let r = into_answer true numbers (length pred) pred_off pred_stride (length rec) rec_off rec_stride in
    (r, written r rec (put_square 4 rec_off rec_stride (sum_in 4 res pred pred_off pred_stride) rec))

-- the sample in column x and row y of the square of a plane whose first sample is at `off`
abbrev pub square : List ℕ → ℕ → ℕ → ℕ → ℕ → ℕ
square plane off stride x y = get_or plane (off + y * stride + x) 0

pub record Agreement : Type 0 where
  -- a lone DC coefficient gives sixteen equal residuals
  pub flat : (v : ℤ) → inverse4x4 (lone v) ≡ replicate 16 (rounded v)
  -- it is in range where it is so after the second pass, -32768..32735
  pub lone_range : (v : ℤ) → in_range4x4 (lone v) ≡ last_in_range v
  -- so that `reconstruct_4x4_dc_into` of the rounded coefficient is `reconstruct_4x4_into` of the lone one wherever that is in range
  pub flat_into : (v : ℤ) (pred : List ℕ) (pred_off pred_stride : ℕ) (rec : List ℕ) (rec_off rec_stride : ℕ) → in_range4x4 (lone v) ≡ true
      → into (in_range (rounded v)) (replicate 16 (rounded v)) pred pred_off pred_stride rec rec_off rec_stride
      ≡ into (in_range4x4 (lone v)) (inverse4x4 (lone v)) pred pred_off pred_stride rec rec_off rec_stride
  -- the array forms take every prediction that stands in a plane of bytes
  pub bytes_pass : (pred : List ℕ) (off stride : ℕ) → ((i : ℕ) → get_or pred i 0 < 256) → all_in_range (block_of 4 (λ x y. pos (square pred off stride x y))) ≡ true
  -- and the sixteen bytes that a call puts into a plane are the array form's sums of the prediction that it reads
  pub arrays_into : (res : List ℤ) (pred : List ℕ) (pred_off pred_stride : ℕ) (rec : List ℕ) (rec_off rec_stride : ℕ)
      → into_room 4 (length pred) pred_off pred_stride (length rec) rec_off rec_stride ≡ true
      → block_of 4 (square (put_square 4 rec_off rec_stride (sum_in 4 res pred pred_off pred_stride) rec) rec_off rec_stride)
      ≡ sums 16 res (block_of 4 (λ x y. pos (square pred pred_off pred_stride x y)))
