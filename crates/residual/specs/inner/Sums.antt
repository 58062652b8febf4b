-- What loops leave on their way to a block of sums.
use Rattle.std.specs.Prelude.{List, ℕ, ◌+◌, ltb, ℤ, pos, ◌+ℤ◌, get_or}
use Rattle.laws.specs.Patch.{patch}
use Rattle.laws.specs.Range.{at}
use Rattle.basics.specs.Clip.{Clip1}

-- a row with its first n bytes put anew: the clipped sums from places k of the residuals and p of the prediction on
abbrev pub summed : List ℤ → ℕ → List ℕ → ℕ → ℕ → List ℕ → List ℕ
summed res k pred p n row = patch (λ i. ltb i n) (λ i. Clip1 (pos (get_or pred (p + i) 0) +ℤ at res (k + i))) row
