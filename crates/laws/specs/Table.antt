-- Lists, sums and tests by their places.
use Rattle.std.specs.Prelude.{Bool, true, false, ◌&&◌, ◌||◌, List, [], ◌∷◌, ◌++◌, ℕ, zero, suc, ◌+◌, ◌*◌, ◌/◌, ◌%◌, ℤ, pos, ◌+ℤ◌, length, drop}
use Rattle.laws.specs.Range.{at}

-- f 0, f 1, .., f (n - 1)
unfoldable pub table : {A : Type 0} → ℕ → (ℕ → A) → List A
table zero f = []
table (suc n) f = f 0 ∷ table n (λ k. f (suc k))

-- a block of side n in raster order, whose sample in column x and row y is f x y
abbrev pub block_of : {A : Type 0} → ℕ → (ℕ → ℕ → A) → List A
block_of n f = table (n * n) (λ k. f (k % n) (k / n))

-- a list with its first k places put anew: f 0, f 1, .., f (k - 1), and then what it held
abbrev pub onto : {A : Type 0} → ℕ → (ℕ → A) → List A → List A
onto k f l = table k f ++ drop k l

-- what f makes of each n numbers of a list, where those stand
abbrev pub blockwise : ℕ → (List ℤ → List ℤ) → List ℤ → List ℤ
blockwise n f l = table (length l) (λ i. at (f (table n (λ k. at l (i / n * n + k)))) (i % n))

-- f 0 + f 1 + .. + f (n - 1), of numbers and of signed numbers
unfoldable pub sum_of : ℕ → (ℕ → ℕ) → ℕ
sum_of zero f = 0
sum_of (suc n) f = sum_of n f + f n

unfoldable pub sum_z : ℕ → (ℕ → ℤ) → ℤ
sum_z zero f = pos 0
sum_z (suc n) f = sum_z n f +ℤ f n

-- f holds at 0, 1, .., n - 1
unfoldable pub all_below : ℕ → (ℕ → Bool) → Bool
all_below zero f = true
all_below (suc n) f = all_below n f && f n

-- f holds at one of them
unfoldable pub some_below : ℕ → (ℕ → Bool) → Bool
some_below zero f = false
some_below (suc n) f = some_below n f || f n

-- p holds of each n numbers of a list
abbrev pub all_blocks : ℕ → (List ℤ → Bool) → List ℤ → Bool
all_blocks n p l = all_below (length l / n) (λ b. p (table n (λ k. at l (n * b + k))))
