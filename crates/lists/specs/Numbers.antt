-- The numbers and marks that the bytes of a list stand for.
use Rattle.std.specs.Prelude.{Bool, cond, List, ℕ, ◌+◌, ◌*◌, ◌/◌, ◌%◌, eqb, ltb, ℤ, pos, ◌-ℤ◌, length, get_or}
use Rattle.laws.specs.Table.{table}

-- the number of three bytes, the lowest first, which stand for 8388608 more than it
abbrev pub number_of : ℕ → ℕ → ℕ → ℤ
number_of a b c = pos (a + 256 * b + 65536 * c) -ℤ pos 8388608

-- number k of a run of bytes, or 0 where it has fewer
unfoldable pub number_at : List ℕ → ℕ → ℤ
number_at l k = cond (ltb k (length l / 3)) (number_of (get_or l (3 * k) 0) (get_or l (3 * k + 1) 0) (get_or l (3 * k + 2) 0)) (pos 0)

-- its first n numbers
abbrev pub numbers_of : ℕ → List ℕ → List ℤ
numbers_of n l = table n (number_at l)

-- the bit of weight w is set in a byte
abbrev pub is_set : ℕ → ℕ → Bool
is_set w marks = eqb (marks / w % 2) 1
