-- DC by the sums of the sides that are there, however the samples are read; a mean of samples is a sample. Assumes nothing.
use mathlib.Core.Path.{◌≡◌, refl, ◌∙◌}
use mathlib.Core.Bool.{Bool, true, false}
use Prim.Native.Nat.{ℕ, ◌+◌, ◌*◌, ◌/◌, ◌≤◌, ◌<◌, ◌%◌}
use native.Mathlib.Omega.{arith}
use Rattle.laws.specs.Table.{sum_of}
use Rattle.laws.proofs.Sums.{sum_same, mean_small}
use Rattle.basics.specs.Near.{Near, mean, dc}

-- a mean minds only the sides that are there
pub mean_same : (n : ℕ) (above left : Bool) (a b l m : ℕ) → (above ≡ true → a ≡ b) → (left ≡ true → l ≡ m) → mean n above left a l ≡ mean n above left b m
unfolding mean
mean_same n true true a b l m f g = rw (f refl, g refl)
mean_same n true false a b l m f g = rw (f refl)
mean_same n false true a b l m f g = rw (g refl)
mean_same n false false a b l m f g = refl

pub mean_is : (n : ℕ) (above left : Bool) (a l : ℕ) {r : ℕ} → 1 ≤ n → (above ≡ true → a ≤ 255 * n) → (left ≡ true → l ≤ 255 * n)
    → r ≡ mean n above left a l % 256 → r ≡ mean n above left a l
unfolding mean
mean_is n above left a l some ha hl e = omega (arith, small above left ha hl)
  where
    small : (above left : Bool) → (above ≡ true → a ≤ 255 * n) → (left ≡ true → l ≤ 255 * n) → mean n above left a l < 256
    small true true f g = mean_small (a + l + n) (2 * n) (omega arith) (omega (arith, f refl, g refl))
    small true false f g = mean_small (a + n / 2) n some (omega (arith, f refl))
    small false true f g = mean_small (l + n / 2) n some (omega (arith, g refl))
    small false false f g = omega arith

-- the sum of n samples
abbrev pub SumOf : ℕ → (ℕ → ℕ) → ℕ → Type 0
SumOf n f s = (s ≡ sum_of n f) × (s ≤ 255 * n)

pub dc_is : (n : ℕ) (above left : Bool) (p : Near) (f g : ℕ → ℕ) {r a l : ℕ} → 1 ≤ n → r ≡ mean n above left a l % 256
    → (above ≡ true → SumOf n f a) → (left ≡ true → SumOf n g l) → ((k : ℕ) → k < n → f k ≡ p (k + 1) 0) → ((k : ℕ) → k < n → g k ≡ p 0 (k + 1)) → r ≡ dc n above left p
unfolding dc
dc_is n above left p f g some er ea el hf hg =
    mean_is n above left _ _ some (λ t. (ea t).1) (λ t. (el t).1) er
    ∙ mean_same n above left _ _ _ _ (λ t. (ea t).0 ∙ sum_same n f _ hf) (λ t. (el t).0 ∙ sum_same n g _ hg)
