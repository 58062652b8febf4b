-- Sums by their places. Assumes nothing.
use mathlib.Core.Path.{◌≡◌, refl, ap₂}
use Prim.Native.Nat.{ℕ, zero, suc, ◌+◌, ◌*◌, ◌/◌, ◌<◌}
use native.Mathlib.Nat.{div-lt_iff_lt-mul}
use native.Mathlib.Numerals.{add-one}
use native.Mathlib.Omega.{arith}
use lib.IntN.{ℤ, ◌+ℤ◌}
use Rattle.laws.specs.Table.{sum_of, sum_z}

-- a sum that a loop adds to
pub sum_more : (n : ℕ) (f : ℕ → ℕ) (s v : ℕ) → s ≡ sum_of n f → v ≡ f n → s + v ≡ sum_of (n + 1) f
unfolding sum_of
sum_more n f s v e h = rw (add-one n) (ap₂ ◌+◌ e h)

pub sum_same : (n : ℕ) (f g : ℕ → ℕ) → ((k : ℕ) → k < n → f k ≡ g k) → sum_of n f ≡ sum_of n g
unfolding sum_of
sum_same zero f g h = refl
sum_same (suc n) f g h = ap₂ ◌+◌ (sum_same n f g (λ k l. h k (omega arith))) (h n (omega arith))

-- the same of signed numbers
pub sum_z_more : (n : ℕ) (f : ℕ → ℤ) (v : ℤ) → v ≡ f n → sum_z n f +ℤ v ≡ sum_z (n + 1) f
unfolding sum_z
sum_z_more n f v e = rw (add-one, e)

pub sum_z_same : (n : ℕ) (f g : ℕ → ℤ) → ((k : ℕ) → k < n → f k ≡ g k) → sum_z n f ≡ sum_z n g
unfolding sum_z
sum_z_same zero f g h = refl
sum_z_same (suc n) f g h = ap₂ ◌+ℤ◌ (sum_z_same n f g (λ k l. h k (omega arith))) (h n (omega arith))

-- a mean of bytes is a byte
pub mean_small : (a k : ℕ) → 0 < k → a < 256 * k → a / k < 256
mean_small a k h l = (div-lt_iff_lt-mul h).1 l
