-- The ones of a map. Assumes nothing.
use mathlib.Core.Path.{◌≡◌, refl, ap}
use mathlib.Core.List.{List, [], ◌∷◌}
use Prim.Native.Nat.{ℕ, zero, suc, ◌<◌, ◌≤◌, zero-le}
use native.Mathlib.Nat.{not-suc-le-zero, le_of_suc-le-suc}
use native.Mathlib.Omega.{arith}
use lib.ListN.{set, length, replicate}
use Rattle.order.specs.Order.{Done, AllDone, is_one, ones}

is_one_le : (b : ℕ) → is_one b ≤ 1
is_one_le zero = omega arith
is_one_le (suc zero) = omega arith
is_one_le (suc (suc b)) = omega arith

is_one_not : (b : ℕ) → ¬ (b ≡ 1) → is_one b ≡ 0
is_one_not zero h = refl
is_one_not (suc zero) h = absurd (h refl)
is_one_not (suc (suc b)) h = refl

is_one_one : (b : ℕ) → is_one b ≡ 1 → b ≡ 1
is_one_one zero h = omega arith
is_one_one (suc zero) h = refl
is_one_one (suc (suc b)) h = omega arith

pub ones_le : (d : List ℕ) → ones d ≤ length d
ones_le [] = zero-le
ones_le (b ∷ d) = omega (arith, is_one_le b, ones_le d)

-- one more step done is one more 1
pub ones_set : (d : List ℕ) (a : ℕ) → a < length d → ¬ Done d a → ones (set d a 1) ≡ suc (ones d)
ones_set [] a h u = absurd (not-suc-le-zero h)
ones_set (b ∷ d) zero h u = omega (arith, is_one_not b u)
ones_set (b ∷ d) (suc a) h u = omega (arith, ones_set d a (le_of_suc-le-suc h) u)

pub ones_none : (n : ℕ) → ones (replicate n 0) ≡ 0
ones_none zero = refl
ones_none (suc n) = omega (arith, ones_none n)

-- a map is full exactly when it has as many ones as bytes
pub full_done : (d : List ℕ) → ones d ≡ length d → AllDone (length d) d
full_done [] e a h = absurd (not-suc-le-zero h)
full_done (b ∷ d) e zero h = is_one_one b (omega (arith, is_one_le b, ones_le d))
full_done (b ∷ d) e (suc a) h = full_done d (omega (arith, is_one_le b, ones_le d)) a (le_of_suc-le-suc h)

pub done_full : (d : List ℕ) → AllDone (length d) d → ones d ≡ length d
done_full [] f = refl
done_full (b ∷ d) f = omega (arith, ap is_one (f zero (omega arith)), done_full d (λ a h. f (suc a) (omega arith)))
