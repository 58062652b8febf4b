-- Whole numbers for proofs over `i32`. Three parts:
--     ints       a set for `search`: what an expression of `i32` asks and gives, read off the expression
--     parts      z is up z - dn z, so that `omega` proves orders and equations of whole numbers
--     tests      what a comparison says
-- How `ints` works. A need asks that a sum fits, `SFits w32 (x +ℤ y)`: that is `Within 2147483647` of it. A bound goes down from there, halved at
-- each sum, divided at each product and kept at each shift, so every number is a numeral that computes, until a bound that is known is reached,
-- a field of what the need is handed. So an expression five sums deep wants its variables within 2 ^ 26. And what the machine holds,
-- `to_z w32 (of_z w32 x)`, is x where x fits: `back_is` takes it off, and `add_is` and its like go on below.
-- Assumes nothing.
use mathlib.Core.Path.{◌≡◌, refl, sym, ap, ◌∙◌, subst}
use mathlib.Core.Bool.{Bool, true, false, not, cond}
use mathlib.Core.List.{List, [], ◌∷◌}
use Prim.Native.Nat.{ℕ, zero, suc, ◌+◌, ◌-◌, ◌*◌, ◌/◌, ◌≤◌, ◌<◌, min}
use native.Mathlib.Nat.{div-le_self, div-add-mod', mod-lt, zero-div, mul-le-mul, le_trans, le_refl}
use native.Mathlib.Omega.{arith}
use borrow.Author.Tests.{ltb-true, ltb-false}
use borrow.Rule.Slice.PartMut.{mid_of}
use lib.Dec.{T, ltb, leb, ltb→lt, nltb→le, leb→le}
use lib.IntN.{ℤ, pos, negsuc, nat_abs, neg_ℤ, sub_ℕ, ◌+ℤ◌, ◌*ℤ◌}
use lib.ListN.{take, drop}
use lib.Seq.{get_or-drop}
use lib.Signed.{shr_z, lt_z, non_neg}
use mir.Syntax.{w8, w16, w32}
use mir.Val.{SFits, Fits, to_z, of_z}
use mir.ValLaws.{to_z-of_z, to_z_pos}
use Rattle.laws.specs.Range.{Within, AllWithin, at}
use Rattle.laws.specs.Table.{table}

-- ---- parts: the positive and the negative part of a number
unfoldable pub up : ℤ → ℕ
up (pos n) = n
up (negsuc n) = 0

unfoldable pub dn : ℤ → ℕ
dn (pos n) = 0
dn (negsuc n) = suc n

cond_by : (b : Bool) (x y : ℤ) (P : ℤ → Type 0) → (T b → P x) → (T (not b) → P y) → P (cond b x y)
cond_by true x y P f g = f tt
cond_by false x y P f g = g tt

sub_parts : (a b : ℕ) → up (sub_ℕ a b) + b ≡ a + dn (sub_ℕ a b)
unfolding up dn
sub_parts a b =
    cond_by (ltb a b) (negsuc (b - suc a)) (pos (a - b)) (λ z. up z + b ≡ a + dn z)
    (λ t. omega (arith, ltb→lt a b t))
    (λ t. omega (arith, nltb→le a b t))

-- each operation's parts
pub parts_add : (x y : ℤ) → up (x +ℤ y) + (dn x + dn y) ≡ (up x + up y) + dn (x +ℤ y)
unfolding up dn
parts_add (pos a) (pos b) = omega arith
parts_add (pos a) (negsuc b) = omega (arith, sub_parts a (suc b))
parts_add (negsuc a) (pos b) = omega (arith, sub_parts b (suc a))
parts_add (negsuc a) (negsuc b) = omega arith

pub parts_neg : (x : ℤ) → (up (neg_ℤ x) ≡ dn x) × (dn (neg_ℤ x) ≡ up x)
unfolding up dn
parts_neg (pos zero) = (refl, refl)
parts_neg (pos (suc a)) = (refl, refl)
parts_neg (negsuc a) = (refl, refl)

pub parts_pos : (n : ℕ) → (up (pos n) ≡ n) × (dn (pos n) ≡ 0)
unfolding up dn
parts_pos n = (refl, refl)

pub parts_shr : (m : ℕ) (x : ℤ) → 0 < m → (up (shr_z x m) ≡ up x / m) × (dn (shr_z x m) * m < dn x + m) × (dn x ≤ dn (shr_z x m) * m)
unfolding up dn
parts_shr m (pos a) h = (refl, omega arith, omega arith)
parts_shr m (negsuc a) h = (sym (zero-div m), omega (arith, div-add-mod' a m, mod-lt a h), omega (arith, div-add-mod' a m, mod-lt a h))

-- the number's size; one of the two parts is 0
pub parts_abs : (x : ℤ) → (nat_abs x ≡ up x + dn x) × (min (up x) (dn x) ≡ 0)
unfolding up dn
parts_abs (pos a) = omega arith
parts_abs (negsuc a) = omega arith

-- for `omega`'s list by their bare names: they read hypotheses
pub lt_parts : (x y : ℤ) → lt_z x y ≡ true → up x + dn y < up y + dn x
unfolding up dn
lt_parts (pos a) (pos b) e = omega (arith, ltb-true a b e)
lt_parts (pos a) (negsuc b) e = absurd (subst T (sym e) tt)
lt_parts (negsuc a) (pos b) e = omega arith
lt_parts (negsuc a) (negsuc b) e = omega (arith, ltb-true b a e)

pub ge_parts : (x y : ℤ) → lt_z x y ≡ false → up y + dn x ≤ up x + dn y
unfolding up dn
ge_parts (pos a) (pos b) e = omega (arith, ltb-false a b e)
ge_parts (pos a) (negsuc b) e = omega arith
ge_parts (negsuc a) (pos b) e = absurd (subst T e tt)
ge_parts (negsuc a) (negsuc b) e = omega (arith, ltb-false b a e)

-- ---- ints: bounds
pub within_fits : {z : ℤ} → Within 2147483647 z → SFits w32 z
within_fits {z = pos n} h = record { sfits = omega (arith, h.within) }
within_fits {z = negsuc n} h = record { sfits = omega (arith, h.within) }

-- a bound that is known, at a larger one
pub within_more : (j k : ℕ) (x : ℤ) → Within j x → T (leb j k) → Within k x
within_more j k x h t = record { within = omega (arith, h.within, leb→le j k t) }

pub within_at : (j k : ℕ) (l : List ℤ) (n : ℕ) → AllWithin j l → T (leb j k) → Within k (at l n)
within_at j k l n h t = within_more j k (at l n) (h.each n) t

pub within_lit : (k n : ℕ) → T (leb n k) → Within k (pos n)
within_lit k n t = record { within = leb→le n k t }

pub within_add : (k : ℕ) (x y : ℤ) → Within (k / 2) x → Within (k / 2) y → Within k (x +ℤ y)
within_add k x y h g = record { within = omega (arith, h.within, g.within, parts_abs x, parts_abs y, parts_abs (x +ℤ y), parts_add x y) }

pub within_neg : (k : ℕ) (x : ℤ) → Within k x → Within k (neg_ℤ x)
within_neg k x h = record { within = omega (arith, h.within, parts_abs x, parts_abs (neg_ℤ x), parts_neg x) }

pub within_shr : (k m : ℕ) (x : ℤ) → Within k x → Within k (shr_z x m)
within_shr k m (pos a) h = record { within = omega (arith, h.within, div-le_self a m) }
within_shr k m (negsuc a) h = record { within = omega (arith, h.within, div-le_self a m) }

-- what the machine reads back from the bits of a number
pub within_back : (k : ℕ) (x : ℤ) → T (ltb k 2147483648) → Within k x → Within k (to_z w32 (of_z w32 x))
within_back k x t h = subst (Within k) (sym (to_z-of_z w32 x (within_fits (record { within = omega (arith, h.within, ltb→lt k 2147483648 t) })))) h

-- a product: the first factor's bound is one that is known
abs_neg : (n : ℕ) → nat_abs (neg_ℤ (pos n)) ≡ n
abs_neg zero = refl
abs_neg (suc n) = refl

abs_mul : (x y : ℤ) → nat_abs (x *ℤ y) ≡ nat_abs x * nat_abs y
abs_mul (pos a) (pos b) = refl
abs_mul (pos a) (negsuc b) = abs_neg (a * suc b)
abs_mul (negsuc a) (pos b) = abs_neg (suc a * b)
abs_mul (negsuc a) (negsuc b) = refl

pub within_mul : (j k : ℕ) (x y : ℤ) → Within j x → Within (k / j) y → Within k (x *ℤ y)
within_mul j k x y h g = record { within = rw abs_mul (le_trans (mul-le-mul h.within g.within) (omega (arith, div-add-mod' k j))) }

pub within_mul_lit : (k n : ℕ) (y : ℤ) → Within (k / n) y → Within k (pos n *ℤ y)
within_mul_lit k n y g = within_mul n k (pos n) y (record { within = le_refl n }) g

pub within_mul_back : (j k : ℕ) (x y : ℤ) → Within j x → T (ltb j 2147483648) → Within (k / j) y → Within k (to_z w32 (of_z w32 x) *ℤ y)
within_mul_back j k x y h t g = within_mul j k (to_z w32 (of_z w32 x)) y (within_back j x t h) g

-- what is read back, as an equation
pub back : (j : ℕ) {z : ℤ} → Within j z → T (leb j 2147483647) → to_z w32 (of_z w32 z) ≡ z
back j {z} h t = to_z-of_z w32 z (within_fits (within_more j 2147483647 z h t))

-- ---- ints: what the machine computes is what the definition says, one operation at a time
pub back_is : (u z : ℤ) → SFits w32 u → u ≡ z → to_z w32 (of_z w32 u) ≡ z
back_is u z f e = to_z-of_z w32 u f ∙ e

pub add_is : (a b x y : ℤ) → a ≡ x → b ≡ y → a +ℤ b ≡ x +ℤ y
add_is a b x y e f = λ i. e i +ℤ f i

pub neg_is : (a x : ℤ) → a ≡ x → neg_ℤ a ≡ neg_ℤ x
neg_is a x e = ap neg_ℤ e

pub mul_is : (a b x y : ℤ) → a ≡ x → b ≡ y → a *ℤ b ≡ x *ℤ y
mul_is a b x y e f = λ i. e i *ℤ f i

pub shr_is : (k : ℕ) (a x : ℤ) → a ≡ x → shr_z a k ≡ shr_z x k
shr_is k a x e = ap (λ (z : ℤ). shr_z z k) e

pub ruleset ints = (tt, within_fits, within_add, within_neg, within_mul, within_mul_lit, within_mul_back, within_shr, within_lit, within_back, within_more, within_at, back_is, add_is, neg_is, mul_is, shr_is)

-- ---- lists
table_at : (k n : ℕ) (f : ℕ → ℤ) → ((i : ℕ) → i < n → Within k (f i)) → (m : ℕ) → Within k (at (table n f) m)
unfolding table
table_at k zero f h m = record { within = omega arith }
table_at k (suc n) f h zero = h 0 (omega arith)
table_at k (suc n) f h (suc m) = table_at k n (λ i. f (suc i)) (λ i l. h (suc i) (omega arith)) m

pub within_table : (k n : ℕ) (f : ℕ → ℤ) → ((i : ℕ) → i < n → Within k (f i)) → AllWithin k (table n f)
within_table k n f h = record { each = table_at k n f h }

-- and a part of a list that is
within_take : (k n : ℕ) (l : List ℤ) → AllWithin k l → (i : ℕ) → Within k (at (take n l) i)
within_take k zero l w i = record { within = omega arith }
within_take k (suc n) [] w i = record { within = omega arith }
within_take k (suc n) (z ∷ l) w zero = w.each 0
within_take k (suc n) (z ∷ l) w (suc i) = within_take k n l (record { each = λ j. w.each (suc j) }) i

pub within_part : (k a n : ℕ) (l : List ℤ) → AllWithin k l → AllWithin k (mid_of a n l)
within_part k a n l w =
    record { each = within_take k n (drop a l) (record { each = λ j. subst (Within k) (sym (get_or-drop a l j (pos 0))) (w.each (a + j)) }) }

-- a list of four numbers, for a function that returns an array of four
pub four_is : {a b c d x y z w : ℤ} → a ≡ x → b ≡ y → c ≡ z → d ≡ w → (a ∷ b ∷ c ∷ d ∷ []) ≡ (x ∷ y ∷ z ∷ w ∷ [])
four_is p q r s = cc

-- ---- the same with bytes as signed numbers, `p as i32`, whose bits are the number
pub byte_within : (k n : ℕ) → Fits w8 n → T (leb 255 k) → Within k (to_z w32 n)
byte_within k n f t = subst (Within k) (sym (to_z_pos w32 n (omega (arith, f.fits)))) (record { within = omega (arith, f.fits, leb→le 255 k t) })

pub byte_is : (n : ℕ) → Fits w8 n → to_z w32 n ≡ pos n
byte_is n f = to_z_pos w32 n (omega (arith, f.fits))

pub ruleset byte_ints = (ints, byte_within, byte_is)

-- ---- a signed variable that a loop adds to. A loop's invariant has its bits, so it says `h ≡ of_z w32 S`
pub abs_add : (x y : ℤ) → nat_abs (x +ℤ y) ≤ nat_abs x + nat_abs y
abs_add x y = omega (arith, parts_abs x, parts_abs y, parts_abs (x +ℤ y), parts_add x y)

-- what `h += s` asks, and what it leaves
pub added : (S s : ℤ) (h a b : ℕ) → h ≡ of_z w32 S → nat_abs S ≤ a → Within b s → a + b < 2147483648 → SFits w32 (to_z w32 h +ℤ s) × (to_z w32 h +ℤ s ≡ S +ℤ s)
added S s h a b e p q l =
    let i : to_z w32 h ≡ S = ap (to_z w32) e ∙ to_z-of_z w32 S (within_fits (record { within = omega (arith, q.within) })) in
    (rw i (within_fits (record { within = omega (arith, q.within, abs_add S s) })), rw i)

-- a number that is not negative, as a signed one: its bits are the number
pub nat_within : (k n : ℕ) → n ≤ k → k < 2147483648 → Within k (to_z w32 n)
nat_within k n h l = subst (Within k) (sym (to_z_pos w32 n (omega arith))) (record { within = h })

-- ---- numbers of sixteen bits
pub within_short : {z : ℤ} → Within 32767 z → SFits w16 z
within_short {z = pos n} h = record { sfits = omega (arith, h.within) }
within_short {z = negsuc n} h = record { sfits = omega (arith, h.within) }

pub short_within : {z : ℤ} → SFits w16 z → Within 32768 z
short_within {z = pos n} f = record { within = omega (arith, f.sfits) }
short_within {z = negsuc n} f = record { within = omega (arith, f.sfits) }

-- one of them read as a wider number
pub short_read : {z : ℤ} → SFits w16 z → Within 32768 (to_z w16 (of_z w16 z))
short_read {z} f = subst (Within 32768) (sym (to_z-of_z w16 z f)) (short_within f)

pub short_fits : {z : ℤ} → SFits w16 z → SFits w32 (to_z w16 (of_z w16 z))
short_fits {z} f = within_fits (within_more 32768 2147483647 (to_z w16 (of_z w16 z)) (short_read f) tt)

pub short_wide : {z : ℤ} → SFits w16 z → to_z w32 (of_z w32 (to_z w16 (of_z w16 z))) ≡ z
short_wide {z} f = to_z-of_z w32 (to_z w16 (of_z w16 z)) (short_fits f) ∙ to_z-of_z w16 z f

-- ---- tests: a number that is neither below 0 nor above 255 is a byte, as a cast to `u8` asks
pub is_byte : (z : ℤ) → lt_z z (pos 0) ≡ false → lt_z (pos 255) z ≡ false → T (non_neg z) × Fits w8 (nat_abs z)
is_byte (pos n) g h = (tt, record { fits = omega (arith, ltb-false 255 n h) })
is_byte (negsuc n) g h = absurd (subst T g tt)
