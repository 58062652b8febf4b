-- Numbers by rows and columns: what a place of a plane is, in rows of s and in blocks of q by q. Assumes nothing.
use mathlib.Core.Path.{◌≡◌, ap, ◌∙◌}
use Prim.Native.Nat.{ℕ, zero, suc, ◌+◌, ◌*◌, ◌-◌, ◌/◌, ◌%◌, ◌<◌, ◌≤◌}
use native.Mathlib.Nat.{mul-le-mul, mul-le-mul_right, suc-mul}
use native.Mathlib.Omega.{arith}
use lib.Arith.{digits_div, digits_mod}

-- ---- products
pub mul_most : (a b m n : ℕ) → a ≤ m → b ≤ n → a * b ≤ m * n
mul_most a b m n p q = mul-le-mul p q

pub mul_pos : (z m : ℕ) → 0 < z → 0 < m → 0 < z * m
mul_pos zero m hz hm = absurd (omega arith)
mul_pos (suc z) m hz hm = omega (arith, suc-mul z m)

pub le_mul : (x s : ℕ) → 0 < s → x ≤ x * s
le_mul zero s h = omega arith
le_mul (suc x) s h = omega (arith, suc-mul x s, le_mul x s h)

pub pred_mul : (y w : ℕ) → 0 < y → y * w ≡ (y - 1) * w + w
pred_mul zero w h = absurd (omega arith)
pred_mul (suc y) w h = suc-mul y w ∙ ap (λ m. m * w + w) (omega arith)

-- a row of a square lies in it
pub row_in : (y n : ℕ) → y < n → y * n + n ≤ n * n
row_in y n h = omega (arith, suc-mul y n, mul-le-mul_right n h)

-- ---- place i is in row r and column c of the block of side q that is in row Y and column Z of blocks, in rows of s
pub record Placed (q s Y Z r c i : ℕ) : Type 0 where
  pub row : i / s ≡ Y * q + r
  pub column : i % s ≡ Z * q + c
  pub Y_is : i / s / q ≡ Y
  pub r_is : i / s % q ≡ r
  pub Z_is : i % s / q ≡ Z
  pub c_is : i % s % q ≡ c

pub placed : (q s Y Z r c i : ℕ) → r < q → c < q → Z * q + q ≤ s → i ≡ (Y * q + r) * s + (Z * q + c) → Placed q s Y Z r c i
placed q s Y Z r c i hr hc hz e =
    let l : Z * q + c < s = omega arith in
    let a : i / s ≡ Y * q + r = ap (λ n. n / s) e ∙ digits_div (Y * q + r) l in
    let b : i % s ≡ Z * q + c = ap (λ n. n % s) e ∙ digits_mod (Y * q + r) l in
    record {
      row = a;
      column = b;
      Y_is = ap (λ n. n / q) a ∙ digits_div Y hr;
      r_is = ap (λ n. n % q) a ∙ digits_mod Y hr;
      Z_is = ap (λ n. n / q) b ∙ digits_div Z hc;
      c_is = ap (λ n. n % q) b ∙ digits_mod Z hc;
    }
