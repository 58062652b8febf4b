-- What a reach tells of the numbers that it was made of. Assumes nothing.
use mathlib.Core.Path.{◌≡◌, refl, sym, ap, ◌∙◌, subst}
use mathlib.Core.Bool.{Bool, true, false, cond, ◌&&◌}
use mathlib.Core.List.{List}
use Prim.Native.Nat.{ℕ, suc, ◌+◌, ◌-◌, ◌^◌, ◌≤◌, ◌<◌}
use native.Mathlib.Nat.{add-zero}
use native.Mathlib.Omega.{arith}
use borrow.Author.Tests.{le-leb, leb-true}
use lib.Bits.{bit_or, or_lt, or_add_and, and_le_l, and_le_r}
use lib.Dec.{T, leb, ltb, leb-zero, leb-suc-zero, leb-suc-suc}
use lib.IntN.{ℤ, pos, negsuc, nat_abs, ◌-ℤ◌}
use mir.Facts.{to_z-of_z, of_z-to_z, sfits_to_z, to_z_pos}
use mir.Syntax.{w32}
use mir.Val.{Fits, SFits, to_z, of_z}
use lib.ListN.{length}
use lib.Signed.{lt_z, mag, non_neg}
use Rattle.laws.specs.Range.{Within, at}
use Rattle.laws.proofs.Tests.{true_t, T_true, same_test, and_left, and_right, and_of, not_both, no_from, all_same}
use Rattle.numbers.specs.Numbers.{in_range, all_in_range, all_of, is_zero, last_in_range, mag_and, near, held}
use Rattle.numbers.proofs.InRange.{in_range_all}

-- ---- binary digits put together
left_le : (a b : ℕ) → a ≤ bit_or a b
left_le a b = omega (arith, or_add_and a b, and_le_r a b)

right_le : (a b : ℕ) → b ≤ bit_or a b
right_le a b = omega (arith, or_add_and a b, and_le_l a b)

-- they are less than a power of two where both numbers are
pub or_below : (k a b : ℕ) → ltb (bit_or a b) (2 ^ k) ≡ ltb a (2 ^ k) && ltb b (2 ^ k)
or_below k a b =
    same_test _ _
    (λ t. let h = leb-true (suc (bit_or a b)) (2 ^ k) (T_true _ t) in
    true_t _ (and_of (le-leb (suc a) (2 ^ k) (omega (arith, h, left_le a b))) (le-leb (suc b) (2 ^ k) (omega (arith, h, right_le a b)))))
    (λ t. let e = T_true (ltb a (2 ^ k) && ltb b (2 ^ k)) t in
    true_t _ (le-leb (suc (bit_or a b)) (2 ^ k)
    (or_lt k a b (leb-true (suc a) (2 ^ k) (and_left (ltb a (2 ^ k)) (ltb b (2 ^ k)) e)) (leb-true (suc b) (2 ^ k) (and_right (ltb a (2 ^ k)) (ltb b (2 ^ k)) e)))))

-- ---- the bits of a number are 0 where it is
pub zero_bits : (z : ℤ) → SFits w32 z → ltb (of_z w32 z) 1 ≡ is_zero z
unfolding is_zero
zero_bits (pos n) f = leb-suc-suc n 0 ∙ ap (λ t. t && leb n 0) (sym (leb-zero n))
zero_bits (negsuc n) f = no_from (ltb (4294967296 - suc n) 1) (λ e. leb-true (suc (4294967296 - suc n)) 1 e) (λ h. omega (arith, h, f.sfits))

pub some_bits : (n : ℕ) → (n ≡ 0 → ⊥) → ltb n 1 ≡ false
some_bits n h = no_from (ltb n 1) (λ e. leb-true (suc n) 1 e) (λ g. h (omega arith))

pub bits_zero : (n : ℕ) → n < 4294967296 → is_zero (to_z w32 n) ≡ ltb n 1
bits_zero n h =
    let f : Fits w32 n = record { fits = h } in
    sym (ap (λ k. ltb k 1) (sym (of_z-to_z f)) ∙ zero_bits (to_z w32 n) (sfits_to_z f))

-- ---- a number's magnitude tells whether it is in range
pub near_range : (z : ℤ) → near 15 z ≡ in_range z
unfolding near in_range
near_range (pos n) = leb-suc-suc n 32767
near_range (negsuc n) = leb-suc-suc n 32767 ∙ all (leb n 32767)
  where
    all : (t : Bool) → t ≡ t && true
    all true = refl
    all false = refl

pub last_range : (z : ℤ) → held (mag_and 32 z) ≡ last_in_range z
unfolding mag_and last_in_range
last_range (pos n) = same_test _ _ (λ t. true_t _ (le-leb n 32735 (omega (arith, leb-true (suc (n + 32)) 32768 (T_true _ t))))) (λ t. true_t _ (le-leb (suc (n + 32)) 32768 (omega (arith, leb-true n 32735 (T_true _ t)))))
last_range (negsuc n) = leb-suc-suc n 32767 ∙ all (leb n 32767)
  where
    all : (t : Bool) → t ≡ t && true
    all true = refl
    all false = refl

pub mag_and_none : (z : ℤ) → mag_and 0 z ≡ mag z
unfolding mag_and
mag_and_none (pos n) = add-zero n
mag_and_none (negsuc n) = refl

pub near_alone : (k : ℕ) (s : List ℤ) → all_of (λ z. ltb (mag_and 0 z) (2 ^ k)) s ≡ all_of (near k) s
unfolding near
near_alone k s = all_same (length s) _ _ (λ j _. ap (λ m. ltb m (2 ^ k)) (mag_and_none (at s j)))

pub last_each : (s : List ℤ) → all_of (λ z. held (mag_and 32 z)) s ≡ all_of last_in_range s
last_each s = all_same (length s) _ _ (λ j _. last_range (at s j))

pub near_each : (s : List ℤ) → all_of (near 15) s ≡ all_of in_range s
near_each s = all_same (length s) _ _ (λ k _. near_range (at s k))

pub near_all : (s : List ℤ) → all_of (near 15) s ≡ all_in_range s
near_all s = near_each s ∙ in_range_all s

pub near_within : (z : ℤ) → near 11 z ≡ true → Within 2048 z
unfolding near
near_within (pos n) e = record { within = omega (arith, leb-true (suc n) 2048 e) }
near_within (negsuc n) e = record { within = omega (arith, leb-true (suc n) 2048 e) }

-- ---- as the machine finds it: z is in its word the number m that is not negative
abbrev Word : ℤ → ℕ → Type 0
Word z m = SFits w32 z × (T (non_neg (to_z w32 (of_z w32 z))) × Fits w32 (nat_abs (to_z w32 (of_z w32 z)))) × (nat_abs (to_z w32 (of_z w32 z)) ≡ m)

word : (m : ℕ) → m < 2147483648 → Word (pos m) m
word m h =
    let b : to_z w32 (of_z w32 (pos m)) ≡ pos m = to_z_pos w32 h in
    (record { sfits = h }, (subst (λ z. T (non_neg z)) (sym b) tt, subst (λ z. Fits w32 (nat_abs z)) (sym b) (record { fits = omega arith })), ap nat_abs b)

-- -1 - v, where v is negative
below : (v : ℤ) → lt_z v (pos 0) ≡ true → negsuc 0 -ℤ v ≡ pos (mag v)
below (pos n) e = absurd (not_both e (leb-suc-zero n))
below (negsuc n) e =
    let m : suc n - 1 ≡ n = omega arith in
    ap (λ t. cond t (negsuc (1 - suc (suc n))) (pos (suc n - 1))) (leb-suc-suc (suc n) 0 ∙ leb-suc-zero n) ∙ ap pos m

above : (v : ℤ) → lt_z v (pos 0) ≡ false → v ≡ pos (mag v)
above (pos n) e = refl
above (negsuc n) e = absurd (not_both refl e)

module _ (v : ℤ) (f : SFits w32 v) where
  pub negative : lt_z (to_z w32 (of_z w32 v)) (pos 0) ≡ true → Word (negsuc 0 -ℤ to_z w32 (of_z w32 v)) (mag v)
  negative e = subst (λ z. Word z (mag v)) (sym (ap (λ z. negsuc 0 -ℤ z) (to_z-of_z f) ∙ below v (ap (λ z. lt_z z (pos 0)) (sym (to_z-of_z f)) ∙ e))) (word (mag v) f.sfits)

  pub positive : lt_z (to_z w32 (of_z w32 v)) (pos 0) ≡ false → (v ≡ pos (mag v)) × Word v (mag v)
  positive e =
      let a = above v (ap (λ z. lt_z z (pos 0)) (sym (to_z-of_z f)) ∙ e) in
      (a, subst (λ z. Word z (mag v)) (sym a) (word (mag v) f.sfits))

  pub mag_below : (m : ℕ) → lt_z (to_z w32 (of_z w32 v)) (pos 0) ≡ true → mag v ≡ mag_and m v
  unfolding mag_and
  mag_below m e = go v (ap (λ z. lt_z z (pos 0)) (sym (to_z-of_z f)) ∙ e)
    where
      go : (v : ℤ) → lt_z v (pos 0) ≡ true → mag v ≡ mag_and m v
      go (pos n) e = absurd (not_both e (leb-suc-zero n))
      go (negsuc n) e = refl
