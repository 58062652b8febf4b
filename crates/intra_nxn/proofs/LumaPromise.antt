-- 4x4 and 8x8 luma prediction keeps its promise: equality and lying between two bounds are relations that go through the means and through DC, and
-- the prediction and the filter follow every such relation. Assumes nothing.
use mathlib.Core.Path.{◌≡◌, refl, ap, ap₂, ◌∙◌}
use mathlib.Core.Bool.{Bool, true, false, ◌||◌}
use Prim.Native.Nat.{ℕ, zero, suc, ◌+◌, ◌*◌, ◌/◌, ◌≤◌, ◌<◌}
use native.Mathlib.Omega.{arith}
use native.Mathlib.Nat.{div-lt_iff_lt-mul, le-div_iff_mul-le, suc-mul, mul-suc, mul-add}
use lib.Dec.{lit≤}
use Rattle.laws.specs.Table.{sum_of}
use Rattle.laws.proofs.Sums.{sum_same}
use Rattle.laws.proofs.Tests.{not_both}
use Rattle.intra_nxn.specs.IntraNxN.{pred_nxn, pred4x4_l, pred8x8_l, filtered}
use Rattle.intra_nxn.specs.LumaPromise.{Between, LumaPromise}
use Rattle.basics.specs.Near.{Near, mean, dc}
use Rattle.intra_nxn.proofs.Related.{Open, Through, related, related_filtered}

-- ---- equality
pub equal : Through (λ u v. u ≡ v)
equal = record { by_2 = λ r s. omega arith; by_3 = λ r s t. omega arith }

equal_dc : (n : ℕ) (a l c : Bool) (p q : Near) → Open (λ u v. u ≡ v) n a l c p q → dc n a l p ≡ dc n a l q
unfolding dc mean
equal_dc n true true c p q w =
    ap₂ (λ u v. (u + v + n) / (2 * n)) (sum_same n _ _ (λ k h. w.on_above refl (k + 1) (omega arith) (omega arith)))
    (sum_same n _ _ (λ k h. w.on_left refl (k + 1) (omega arith) (omega arith)))
equal_dc n true false c p q w = ap (λ u. (u + n / 2) / n) (sum_same n _ _ (λ k h. w.on_above refl (k + 1) (omega arith) (omega arith)))
equal_dc n false true c p q w = ap (λ u. (u + n / 2) / n) (sum_same n _ _ (λ k h. w.on_left refl (k + 1) (omega arith) (omega arith)))
equal_dc n false false c p q w = refl

-- ---- bounds
module _ (lo hi : ℕ) where
  bounded : Through (λ u _. Between lo hi u)
  bounded = record { by_2 = λ r s. record { low = omega arith; high = omega arith }; by_3 = λ r s t. record { low = omega arith; high = omega arith } }

  -- the sum of n numbers
  record SumBetween (n s : ℕ) : Type 0 where
    low_sum : lo * n ≤ s
    high_sum : s ≤ hi * n

  sum_between : (n : ℕ) (f : ℕ → ℕ) → ((k : ℕ) → k < n → Between lo hi (f k)) → SumBetween n (sum_of n f)
  unfolding sum_of
  sum_between zero f h = record { low_sum = omega arith; high_sum = omega arith }
  sum_between (suc n) f h =
      let s = sum_between n f (λ k l. h k (omega arith)) in
      let b = h n (omega arith) in
      record { low_sum = omega (arith, mul-suc lo n); high_sum = omega (arith, mul-suc hi n) }

  -- the mean of n numbers whose sum is s, rounded by r
  rounded_between : (s n r : ℕ) → 1 ≤ n → r < n → SumBetween n s → Between lo hi ((s + r) / n)
  rounded_between s n r some small b =
      let g : (s + r) / n < suc hi = (div-lt_iff_lt-mul some).1 (omega (arith, suc-mul hi n)) in
      record { low = (le-div_iff_mul-le some).1 (omega arith); high = omega arith }

  both_sums : (n u v : ℕ) → SumBetween n u → SumBetween n v → SumBetween (2 * n) (u + v)
  both_sums n u v a b = record { low_sum = omega (arith, double lo); high_sum = omega (arith, double hi) }
    where
      double : (k : ℕ) → k * (2 * n) ≡ 2 * (k * n)
      double k = ap (λ (z : ℕ). k * z) (omega arith) ∙ mul-add k n n ∙ omega arith

  bounded_dc : (n : ℕ) (a l c : Bool) (p q : Near) → 2 ≤ n → a || l ≡ true → Open (λ u _. Between lo hi u) n a l c p q → Between lo hi (dc n a l p)
  unfolding dc mean
  bounded_dc n a l c p q two some w = go a l some w
    where
      above_sum : (l : Bool) → Open (λ u _. Between lo hi u) n true l c p q → SumBetween n (sum_of n (λ x. p (x + 1) 0))
      above_sum l w = sum_between n _ (λ k h. w.on_above refl (k + 1) (omega arith) (omega arith))

      left_sum : (a : Bool) → Open (λ u _. Between lo hi u) n a true c p q → SumBetween n (sum_of n (λ y. p 0 (y + 1)))
      left_sum a w = sum_between n _ (λ k h. w.on_left refl (k + 1) (omega arith) (omega arith))

      go : (a l : Bool) → a || l ≡ true → Open (λ u _. Between lo hi u) n a l c p q → Between lo hi (dc n a l p)
      go true true some w = rounded_between _ (2 * n) n (omega arith) (omega arith) (both_sums n _ _ (above_sum true w) (left_sum true w))
      go true false some w = rounded_between _ n (n / 2) (omega arith) (omega arith) (above_sum false w)
      go false true some w = rounded_between _ n (n / 2) (omega arith) (omega arith) (left_sum false w)
      go false false some w = absurd (not_both some refl)

-- ---- the promise, over the side, of a prediction from a neighbourhood that is changed in a way that follows every relation
module _ (n : ℕ) (two : 2 ≤ n) (change : Bool → Bool → Bool → Near → Near)
    (follows : (R : ℕ → ℕ → Type 0) → Through R → (a l c : Bool) (p q : Near) → Open R n a l c p q → Open R n a l c (change a l c p) (change a l c q)) where
  pub promise : LumaPromise n (λ mode a l c p. pred_nxn n mode a l (change a l c p))
  unfolding pred_nxn dc mean
  promise =
      record {
        absent_unread = λ mode a l c p q x y ok hx hy w.
            let v = follows (λ u v. u ≡ v) equal a l c p q (record { on_above = w.on_above; on_left = w.on_left; on_corner = w.on_corner }) in
            related (λ u v. u ≡ v) equal mode n a l c _ _ x y two hx hy ok (λ _. equal_dc n a l c _ _ v) v;
        between_neighbours = λ mode a l c p lo hi x y ok hx hy some w.
            let v = follows (λ u _. Between lo hi u) (bounded lo hi) a l c p p (record { on_above = w.on_above; on_left = w.on_left; on_corner = w.on_corner }) in
            related (λ u _. Between lo hi u) (bounded lo hi) mode n a l c _ _ x y two hx hy ok (λ e. bounded_dc lo hi n a l c _ _ two (some e) v) v;
        dc_alone = λ c p x y. refl;
      }

pub promise_4x4 : LumaPromise 4 pred4x4_l
promise_4x4 = promise 4 (lit≤ tt) (λ a l c p. p) (λ R t a l c p q w. w)

pub promise_8x8 : LumaPromise 8 pred8x8_l
promise_8x8 = promise 8 (lit≤ tt) (filtered 8) (λ R t a l c p q w. related_filtered R t 8 a l c p q (lit≤ tt) w)
