-- Modes, once over their number. Sets of them as numbers: bit m says whether m is one of them, so the test by the mask of one bit is the test of the
-- mode. Assumes nothing.
use mathlib.Core.Path.{◌≡◌, refl, sym, ap, ◌∙◌}
use mathlib.Core.Bool.{Bool, true, false, not, cond, ◌&&◌}
use mathlib.Core.Logic.{⊎_elim}
use Prim.Native.Nat.{ℕ, zero, suc, ◌+◌, ◌-◌, ◌*◌, ◌/◌, ◌%◌, ◌^◌, ◌≤◌, ◌<◌}
use native.Mathlib.Omega.{arith}
use native.Mathlib.Nat.{zero-mul, one-mul, mul_assoc, div-eq_of_lt, lt_of_lt_of_le, two-pow-succ, add-mul-div_right, eq-or-lt_of_le}
use native.Mathlib.Decide.{dec_lt}
use lib.Dec.{T, eqb, ltb, lit<, ltb→lt}
use lib.Bits.{bit_and, bit_or, and_high}
use lib.Pow.{pow_pos, pow_mono, pow-add, shl_exact}
use borrow.Author.Tests.{ne_eqb, lt-ltb, le-ltb}
use Rattle.laws.specs.Table.{sum_of}
use Rattle.basics.specs.Marks.{permitted_nxn, permitted16x16, permitted_chroma, mode_set, bit, BitOfSet}

-- ---- bits of a sum
-- a power of two above bit m leaves it, and the power of two at bit m sets it
bit_below : (s n m : ℕ) → m < n → bit (s + 2 ^ n) m ≡ bit s m
bit_below s n m h =
    let k : ℕ = n - suc m in
    let e : 2 ^ n ≡ 2 ^ k * 2 ^ (1 + m) = ap (λ (i : ℕ). 2 ^ i) (omega arith) ∙ pow-add 2 k (1 + m) in
    let d : 2 ^ k * 2 ^ (1 + m) ≡ (2 ^ k * 2) * 2 ^ m = ap (λ (i : ℕ). 2 ^ k * i) (pow-add 2 1 m) ∙ sym (mul_assoc (2 ^ k) 2 (2 ^ m)) in
    let g : (s + 2 ^ n) / 2 ^ m ≡ s / 2 ^ m + 2 ^ k * 2 = ap (λ (i : ℕ). (s + i) / 2 ^ m) (e ∙ d) ∙ add-mul-div_right s (2 ^ k * 2) (pow_pos m) in
    omega arith

bit_at : (s m : ℕ) → s < 2 ^ m → bit (s + 2 ^ m) m ≡ 1
bit_at s m h =
    let g : (s + 2 ^ m) / 2 ^ m ≡ s / 2 ^ m + 1 = ap (λ (i : ℕ). (s + i) / 2 ^ m) (sym (one-mul (2 ^ m))) ∙ add-mul-div_right s 1 (pow_pos m) in
    let z : s / 2 ^ m ≡ 0 = div-eq_of_lt h in
    omega arith

bit_above : (s m : ℕ) → s < 2 ^ m → bit s m ≡ 0
bit_above s m h = rw (div-eq_of_lt h)

-- ---- bits of a set
module _ (f : ℕ → Bool) where
  set_small : (n : ℕ) → mode_set n f < 2 ^ n
  unfolding mode_set sum_of
  set_small zero = lit< tt
  set_small (suc n) = omega (arith, set_small n, most (f n), two-pow-succ n)
    where
      most : (b : Bool) → cond b (2 ^ n) 0 ≤ 2 ^ n
      most true = omega arith
      most false = omega arith

  -- bit m is set exactly where m is below n and in the set
  bit_of_set : (n m : ℕ) → bit (mode_set n f) m ≡ cond (ltb m n && f m) 1 0
  unfolding mode_set sum_of
  bit_of_set zero m = bit_above 0 m (pow_pos m) ∙ rw (le-ltb m 0 (omega arith))
  bit_of_set (suc n) m =
      elim (dec_lt n m) [
        | yes h ↦ bit_above _ m (lt_of_lt_of_le (set_small (suc n)) (pow_mono h)) ∙ rw (le-ltb m (suc n) (omega arith))
        | no h ↦ rw (lt-ltb m (suc n) (omega arith))
            (⊎_elim (λ (e : m ≡ n). rw e (last (f n))) (λ (l : m < n). earlier (f n) l ∙ bit_of_set n m ∙ rw (lt-ltb m n l)) (eq-or-lt_of_le {n = m} {m = n} (omega arith)))
      ]
    where
      s : ℕ
      s = sum_of n (λ m. cond (f m) (2 ^ m) 0)

      last : (b : Bool) → bit (s + cond b (2 ^ n) 0) n ≡ cond b 1 0
      last true = bit_at s n (set_small n)
      last false = bit_above (s + 0) n (omega (arith, set_small n))

      earlier : (b : Bool) → m < n → bit (s + cond b (2 ^ n) 0) m ≡ bit s m
      earlier true l = bit_below s n m l
      earlier false l = ap (λ (i : ℕ). bit i m) (omega arith)

pub bits_of_set : BitOfSet
bits_of_set = record { says = λ n permitted m. bit_of_set permitted n m }

-- ---- the mask of one bit
one_bit : (m b : ℕ) → b < 2 → not (eqb (b * 2 ^ m) 0) ≡ eqb b 1
one_bit m zero h = rw (zero-mul (2 ^ m))
one_bit m (suc zero) h = rw (one-mul (2 ^ m), ne_eqb (2 ^ m) 0 (omega (arith, pow_pos m)))
one_bit m (suc (suc b)) h = absurd (omega arith)

pub mask : (s m : ℕ) → m < 16 → not (eqb (bit_and s (1 * 2 ^ m % 65536)) 0) ≡ eqb (bit s m) 1
mask s m h =
    let e : 1 * 2 ^ m % 65536 ≡ 2 ^ (1 + m) - 2 ^ m = shl_exact 1 m 16 (lit< tt) (omega arith) ∙ omega (arith, pow-add 2 1 m) in
    rw (e, and_high s 1 m) (one_bit m (s / 2 ^ m % 2) (omega arith))

-- the mode's bit is the test of the mode
pub bit_is_test : (n : ℕ) (f : ℕ → Bool) (m : ℕ) → m < n → eqb (bit (mode_set n f) m) 1 ≡ f m
bit_is_test n f m h = rw (bit_of_set f n m, lt-ltb m n h) (go (f m))
  where
    go : (b : Bool) → eqb (cond b 1 0) 1 ≡ b
    go true = refl
    go false = refl

-- ---- the sets that the marks give, computed
by_marks_lem : (P : Bool → Bool → Bool → Type 0) → P true true true → P true true false → P true false true → P true false false
    → P false true true → P false true false → P false false true → P false false false → (a l c : Bool) → P a l c
by_marks_lem P ttt ttf tft tff ftt ftf fft fff true true true = ttt
by_marks_lem P ttt ttf tft tff ftt ftf fft fff true true false = ttf
by_marks_lem P ttt ttf tft tff ftt ftf fft fff true false true = tft
by_marks_lem P ttt ttf tft tff ftt ftf fft fff true false false = tff
by_marks_lem P ttt ttf tft tff ftt ftf fft fff false true true = ftt
by_marks_lem P ttt ttf tft tff ftt ftf fft fff false true false = ftf
by_marks_lem P ttt ttf tft tff ftt ftf fft fff false false true = fft
by_marks_lem P ttt ttf tft tff ftt ftf fft fff false false false = fff

pub set_nxn : (a l c : Bool) → bit_or (bit_or (bit_or (cond a 137 0) (cond l 258 0)) 4) (cond (a && l && c) 112 0) ≡ mode_set 9 (permitted_nxn a l c)
unfolding mode_set sum_of
set_nxn = by_marks_lem (λ a l c. bit_or (bit_or (bit_or (cond a 137 0) (cond l 258 0)) 4) (cond (a && l && c) 112 0) ≡ mode_set 9 (permitted_nxn a l c))
    refl refl refl refl refl refl refl refl

pub set_16x16 : (a l c : Bool) → bit_or (bit_or (bit_or (cond a 1 0) (cond l 2 0)) 4) (cond (a && l && c) 8 0) ≡ mode_set 4 (permitted16x16 a l c)
unfolding mode_set sum_of
set_16x16 = by_marks_lem (λ a l c. bit_or (bit_or (bit_or (cond a 1 0) (cond l 2 0)) 4) (cond (a && l && c) 8 0) ≡ mode_set 4 (permitted16x16 a l c))
    refl refl refl refl refl refl refl refl

pub set_chroma : (a l c : Bool) → bit_or (bit_or (bit_or 1 (cond l 2 0)) (cond a 4 0)) (cond (a && l && c) 8 0) ≡ mode_set 4 (permitted_chroma a l c)
unfolding mode_set sum_of
set_chroma = by_marks_lem (λ a l c. bit_or (bit_or (bit_or 1 (cond l 2 0)) (cond a 4 0)) (cond (a && l && c) 8 0) ≡ mode_set 4 (permitted_chroma a l c))
    refl refl refl refl refl refl refl refl

-- ---- modes past the last
-- a number from n on is none of those below n
other : (n m k : ℕ) → n ≤ m → T (ltb k n) → eqb m k ≡ false
other n m k h t = ne_eqb m k (omega (arith, ltb→lt k n t))

pub past_nxn : (a l c : Bool) (m : ℕ) → 8 < m → permitted_nxn a l c m ≡ false
past_nxn a l c m h =
    rw (other 9 m 0 h tt, other 9 m 3 h tt, other 9 m 7 h tt, other 9 m 1 h tt, other 9 m 8 h tt, other 9 m 2 h tt, other 9 m 4 h tt, other 9 m 5 h tt, other 9 m 6 h tt)

pub past_16x16 : (a l c : Bool) (m : ℕ) → 3 < m → permitted16x16 a l c m ≡ false
past_16x16 a l c m h = rw (other 4 m 0 h tt, other 4 m 1 h tt, other 4 m 2 h tt, other 4 m 3 h tt)

pub past_chroma : (a l c : Bool) (m : ℕ) → 3 < m → permitted_chroma a l c m ≡ false
past_chroma a l c m h = rw (other 4 m 0 h tt, other 4 m 1 h tt, other 4 m 2 h tt, other 4 m 3 h tt)
