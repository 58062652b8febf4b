-- A block that lies in its plane: its rows, the row above it and the column before it do. Assumes nothing.
use mathlib.Core.Path.{◌≡◌}
use mathlib.Core.Bool.{Bool, false, cond}
use Prim.Native.Nat.{ℕ, suc, ◌+◌, ◌*◌, ◌-◌, ◌<◌, ◌≤◌, min}
use native.Mathlib.Nat.{mul-le-mul_right, suc-mul, mul-pos, le-mul_of_pos_right}
use native.Mathlib.Omega.{arith}
use mathlib.Core.List.{List}
use lib.ListN.{get_or}
use Rattle.macroblock.specs.declared.place.Place.{Place}
use Rattle.macroblock.specs.inner.Blocks.{BlockIn, Low}

-- row r of the block
pub record InRow (q : ℕ) (p : Place) (n r : ℕ) : Type 0 where
  pub line : p.row * q + r ≤ n
  pub product : (p.row * q + r) * p.stride ≤ n
  pub whole : (p.row * q + r) * p.stride + (p.column * q + q) ≤ n

pub in_row : {q n : ℕ} {p : Place} (r : ℕ) → BlockIn q p n → r < q → InRow q p n r
in_row {q} {n} {p} r F h =
    let m : (p.row * q + r) * p.stride ≤ (p.row * q + (q - 1)) * p.stride = mul-le-mul_right p.stride (omega arith) in
    let l : p.row * q + r ≤ (p.row * q + r) * p.stride = le-mul_of_pos_right (p.row * q + r) (omega (arith, F.wide, F.some)) in
    record { line = omega (arith, F.within); product = omega (arith, F.within); whole = omega (arith, F.within) }

-- the row above the block
pub record InAbove (q : ℕ) (p : Place) (n : ℕ) : Type 0 where
  pub some : 0 < p.row * q
  pub line : p.row * q ≤ n
  pub product : (p.row * q - 1) * p.stride ≤ n
  pub whole : (m : ℕ) → m < p.stride → (p.row * q - 1) * p.stride + m < n

pub in_above : {q n : ℕ} {p : Place} → BlockIn q p n → 0 < p.row → InAbove q p n
in_above {q} {n} {p} F h =
    let b : 0 < p.row * q = mul-pos h F.some in
    let e : suc (p.row * q - 1) * p.stride ≡ (p.row * q - 1) * p.stride + p.stride = suc-mul (p.row * q - 1) p.stride in
    let f : suc (p.row * q - 1) * p.stride ≤ (p.row * q + (q - 1)) * p.stride = mul-le-mul_right p.stride (omega arith) in
    let g = in_row 0 F F.some in
    record { some = b; line = omega (arith, g.line); product = omega (arith, F.within); whole = λ m l. omega (arith, F.within) }

-- a macroblock's place in a plane that fits the memory is near
pub place_low : {n : ℕ} {p : Place} → BlockIn 16 p n → n < 18446744073709551616 → Low p
place_low F h = let g = in_row 15 F (omega arith) in record { rows = omega (arith, g.line); columns = omega (arith, F.wide, F.short) }

-- sample t above the block, in a plane
abbrev pub above_at : ℕ → Place → List ℕ → Bool → ℕ → ℕ
above_at q p plane right t = get_or plane ((p.row * q - 1) * p.stride + (p.column * q + min t (cond right (2 * q - 1) (q - 1)))) 0

-- where those stand that repeat the last one over the block
pub reach_last : (l z q t : ℕ) (right : Bool) → right ≡ false → 0 < q → q ≤ t → l + z + (q - 1) ≡ l + (z + min t (cond right (2 * q - 1) (q - 1)))
reach_last l z q t right e some h = rw e (let f : l + z + (q - 1) ≡ l + (z + min t (q - 1)) = omega arith in f)
