-- What is tested of a row and of a column: it tells of every value of the three steps.
use Rattle.std.specs.Prelude.{Bool, ◌&&◌, List, [], ◌∷◌, ℕ, ◌+◌, ◌*◌, ℤ}
use Rattle.laws.specs.Range.{at}
use Rattle.laws.specs.Table.{all_below}
use Rattle.numbers.specs.Numbers.{in_range, all_of, last_in_range}
use Rattle.transform_8x8.specs.Inverse8x8.{first_step, one_dimensional, e_row}

-- the odd places of eight numbers
abbrev pub odd_of : List ℤ → List ℤ
odd_of e = at e 1 ∷ at e 3 ∷ at e 5 ∷ at e 7 ∷ []

-- p holds of each of eight numbers
abbrev pub all_of_eight : (ℤ → Bool) → List ℤ → Bool
all_of_eight p v = all_below 8 (λ k. p (at v k))

-- column j of 64 numbers g is in range
abbrev pub column_in : List ℤ → ℕ → Bool
column_in g j = all_below 8 (λ i. in_range (at g (8 * i + j)))

-- row i of the coefficients d, and column j of the transformed rows g: the last values of the rows are looked at where the columns read them
abbrev pub row_told : List ℤ → ℕ → Bool
row_told d i = all_of in_range (odd_of (e_row d i))

abbrev pub column_told : List ℤ → ℕ → Bool
column_told g j =
    column_in g j && all_of in_range (odd_of (first_step (λ i. at g (8 * i + j)))) && all_of_eight last_in_range (one_dimensional (λ i. at g (8 * i + j)))
