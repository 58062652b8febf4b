-- Numbers in range: what a list of them says of each, and how a loop shows it. Assumes nothing.
use mathlib.Core.Path.{◌≡◌, refl, ap, ◌∙◌}
use mathlib.Core.Bool.{true, false, ◌&&◌}
use mathlib.Core.List.{List, [], ◌∷◌}
use Prim.Native.Nat.{ℕ, zero, suc, ◌+◌, ◌<◌, ◌≤◌}
use native.Mathlib.Omega.{arith}
use borrow.Author.Tests.{le-leb, leb-true}
use borrow.Rule.Slice.PartMut.{mid_of}
use lib.Dec.{leb}
use lib.IntN.{ℤ, pos, negsuc, neg_ℤ, ◌+ℤ◌, ◌-ℤ◌}
use lib.ListN.{length, drop, length-take}
use lib.Signed.{le_z}
use mir.Syntax.{w16}
use mir.Val.{SFits}
use Rattle.laws.specs.Range.{Within, AllWithin, at, minus}
use Rattle.laws.proofs.Stretches.{part_at}
use Rattle.laws.proofs.Ints.{up, dn, parts_add, parts_neg, parts_pos}
use Rattle.laws.proofs.Tests as tests
use Rattle.laws.proofs.Tests.{true_t, T_true, same_test, and_left, and_right, and_of, no_from, all_of_lem}
use Rattle.numbers.specs.Numbers.{in_range, all_in_range, all_of, last_in_range}

pub in_range_within : (z : ℤ) → in_range z ≡ true → Within 32768 z
unfolding in_range
in_range_within (pos n) e = record { within = omega (arith, leb-true n 32767 (and_right (le_z (minus 32768) (pos n)) (leb n 32767) e)) }
in_range_within (negsuc n) e = record { within = omega (arith, leb-true n 32767 (and_left (leb n 32767) true e)) }

-- the numbers of sixteen bits
pub in_range_short : (z : ℤ) → in_range z ≡ true → SFits w16 z
unfolding in_range
in_range_short (pos n) e = record { sfits = omega (arith, leb-true n 32767 (and_right (le_z (minus 32768) (pos n)) (leb n 32767) e)) }
in_range_short (negsuc n) e = record { sfits = omega (arith, leb-true n 32767 (and_left (leb n 32767) true e)) }

pub short_in_range : (z : ℤ) → SFits w16 z → in_range z ≡ true
unfolding in_range
short_in_range (pos n) f = le-leb n 32767 (omega (arith, f.sfits))
short_in_range (negsuc n) f = and_of (le-leb n 32767 (omega (arith, f.sfits))) refl

pub long_out : (z : ℤ) → (SFits w16 z → ⊥) → in_range z ≡ false
long_out z h = no_from (in_range z) (in_range_short z) h

-- a number in range by its parts, both ways
in_parts : (z : ℤ) → in_range z ≡ true → (up z ≤ 32767 + dn z) × (dn z ≤ 32768 + up z)
unfolding in_range up dn
in_parts (pos n) e = omega (arith, leb-true n 32767 (and_right (le_z (minus 32768) (pos n)) (leb n 32767) e))
in_parts (negsuc n) e = omega (arith, leb-true n 32767 (and_left (leb n 32767) true e))

parts_in : (z : ℤ) → (up z ≤ 32767 + dn z) × (dn z ≤ 32768 + up z) → in_range z ≡ true
unfolding in_range up dn
parts_in (pos n) (h, g) = le-leb n 32767 (omega arith)
parts_in (negsuc n) (h, g) = and_of (le-leb n 32767 (omega arith)) refl

-- where the sum and the difference of two numbers are in range, each of them is: it is half of the two taken together
pub halves : (x y : ℤ) → in_range (x +ℤ y) ≡ true → in_range (x -ℤ y) ≡ true → (in_range x ≡ true) × (in_range y ≡ true)
halves x y s d =
    let p = in_parts (x +ℤ y) s in
    let q = in_parts (x -ℤ y) d in
    (parts_in x (omega (arith, p, q, parts_add x y, parts_add x (neg_ℤ y), parts_neg y)), parts_in y (omega (arith, p, q, parts_add x y, parts_add x (neg_ℤ y), parts_neg y)))

-- a value after the second pass is in range, and so it is with 32 more
last_parts : (z : ℤ) → last_in_range z ≡ true → (up z ≤ 32735 + dn z) × (dn z ≤ 32768 + up z)
unfolding last_in_range up dn
last_parts (pos n) e = omega (arith, leb-true n 32735 (and_right (le_z (minus 32768) (pos n)) (leb n 32735) e))
last_parts (negsuc n) e = omega (arith, leb-true n 32767 (and_left (leb n 32767) true e))

pub last_in_range_lem : (z : ℤ) → last_in_range z ≡ true → in_range z ≡ true
last_in_range_lem z e = let p = last_parts z e in parts_in z (omega arith)

pub last_rounds : (z : ℤ) → last_in_range z ≡ true → in_range (z +ℤ pos 32) ≡ true
last_rounds z e = let p = last_parts z e in parts_in (z +ℤ pos 32) (omega (arith, p, parts_add z (pos 32), parts_pos 32))

pub within_in_range : (z : ℤ) → Within 32767 z → in_range z ≡ true
unfolding in_range
within_in_range (pos n) h = le-leb n 32767 (omega (arith, h.within))
within_in_range (negsuc n) h = and_of (le-leb n 32767 (omega (arith, h.within))) refl

pub within_last : (z : ℤ) → Within 32735 z → last_in_range z ≡ true
unfolding last_in_range
within_last (pos n) h = le-leb n 32735 (omega (arith, h.within))
within_last (negsuc n) h = and_of (le-leb n 32767 (omega (arith, h.within))) refl

-- every number of a list in range is in range, and so is the 0 past its end
pub all_at : (s : List ℤ) (k : ℕ) → all_in_range s ≡ true → in_range (at s k) ≡ true
unfolding in_range all_in_range
all_at [] k e = refl
all_at (z ∷ s) zero e = and_left (in_range z) (all_in_range s) e
all_at (z ∷ s) (suc k) e = all_at s k (and_right (in_range z) (all_in_range s) e)

pub all_within : (s : List ℤ) → all_in_range s ≡ true → AllWithin 32768 s
all_within s e = record { each = λ k. in_range_within (at s k) (all_at s k e) }

pub both_within : (a b : List ℤ) → all_in_range a && all_in_range b ≡ true → AllWithin 32768 a × AllWithin 32768 b
both_within a b e = (all_within a (and_left (all_in_range a) (all_in_range b) e), all_within b (and_right (all_in_range a) (all_in_range b) e))

-- the test of the whole list, from a loop that passed every number
pub all_true : (s : List ℤ) → ((k : ℕ) → k < length s → in_range (at s k) ≡ true) → all_in_range s ≡ true
unfolding all_in_range
all_true [] h = refl
all_true (z ∷ s) h = rw (h 0 (omega arith), all_true s (λ k l. h (suc k) (omega arith)))

-- a part of such a list
pub part_in_range : (a n : ℕ) (s : List ℤ) → all_in_range s ≡ true → all_in_range (mid_of a n s) ≡ true
part_in_range a n s e = all_true (mid_of a n s) (λ k h. ap in_range (part_at (pos 0) s a n k (omega (arith, length-take n (drop a s)))) ∙ all_at s (a + k) e)

-- the test of a list is that of each of its numbers
pub in_range_all : (s : List ℤ) → all_of in_range s ≡ all_in_range s
in_range_all s =
    same_test (all_of in_range s) (all_in_range s) (λ t. true_t _ (all_true s (λ k h. tests.all_at (length s) (λ k. in_range (at s k)) (T_true _ t) k h)))
    (λ t. true_t _ (all_of_lem (length s) (λ k. in_range (at s k)) (λ k h. all_at s k (T_true (all_in_range s) t))))
