-- The predictors that read their neighbours from a plane: whether corner, above row and left column lie in it.
use Rattle.std.specs.Prelude.{Bool, ◌&&◌, [], ◌∷◌, ℕ, ◌+◌, ◌-◌, ◌*◌, ltb, leb}
use Rattle.laws.specs.Answer.{◌unless◌, answer}

-- the corner of the block of side n whose first sample is at `base`, the row above it and the column to its left lie in a buffer of `len` bytes,
-- and its stride is 1..4096
unfoldable pub room_round : ℕ → ℕ → ℕ → ℕ → Bool
room_round n len base stride =
    ltb 0 stride && leb stride 4096 && ltb stride base && leb (base + n) (len + stride) && leb (base + (n - 1) * stride) len

-- the answer: 2 without room for reading or writing, 6 for an unknown mode
abbrev pub plane_answer : ℕ → Bool → ℕ → ℕ → ℕ → ℕ → ℕ
plane_answer n known lent len base stride =
    answer (2 unless (leb (n * n) lent && room_round n len base stride) ∷ 6 unless known ∷ [])
