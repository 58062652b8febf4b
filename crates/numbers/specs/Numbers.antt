-- The numbers that may be given: those of 16-bit two's complement (docs/RULES.md, refusal 8).
use Rattle.std.specs.Prelude.{Bool, true, ◌&&◌, List, [], ◌∷◌, ℕ, ◌+◌, ◌^◌, ltb, ℤ, pos, negsuc, length}
use Rattle.std.specs.Int.Signed.{le_z, mag}
use Rattle.laws.specs.Range.{minus, at}
use Rattle.laws.specs.Table.{all_below}

-- -32768..32767
unfoldable pub in_range : ℤ → Bool
in_range z = le_z (minus 32768) z && le_z z (pos 32767)

unfoldable pub all_in_range : List ℤ → Bool
all_in_range [] = true
all_in_range (z ∷ zs) = in_range z && all_in_range zs

-- p holds of each number of a list
abbrev pub all_of : (ℤ → Bool) → List ℤ → Bool
all_of p l = all_below (length l) (λ k. p (at l k))

-- the number 0, as the least and the greatest of some numbers tell it
unfoldable pub is_zero : ℤ → Bool
is_zero z = le_z (pos 0) z && le_z z (pos 0)

-- -32768..32735: a value after the second pass of a transform, to which rounding adds 32
unfoldable pub last_in_range : ℤ → Bool
last_in_range z = le_z (minus 32768) z && le_z z (pos 32735)

-- ---- by its magnitude, which is z where z is not negative and else -1 - z, a number is in -2^k..2^k - 1
unfoldable pub near : ℕ → ℤ → Bool
near k z = ltb (mag z) (2 ^ k)

-- the magnitude with m more where the number is not negative: of a value after the second pass these are the 32 of its rounding
unfoldable pub mag_and : ℕ → ℤ → ℕ
mag_and m (pos n) = n + m
mag_and m (negsuc n) = n

-- -2048..2047: coefficients of a 4x4 block that no value on the way to its residuals leaves the range with
abbrev pub is_small : ℤ → Bool
is_small = near 11

-- a reach of numbers that are all in range
abbrev pub held : ℕ → Bool
held x = ltb x 32768
