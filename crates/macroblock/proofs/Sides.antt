-- A block of a square that lies in its plane lies there too, and so do the sides of it that are there. For every cut. Assumes nothing.
use mathlib.Core.Path.{◌≡◌, refl, sym, ap, ◌∙◌}
use mathlib.Core.Bool.{Bool, true, false, cond, ◌&&◌}
use Prim.Native.Nat.{ℕ, suc, ◌+◌, ◌*◌, ◌-◌, ◌<◌, ◌≤◌}
use native.Mathlib.Nat.{mul-le-mul_left, mul-le-mul_right, add-mul, suc-mul, mul_comm, mul_assoc, mul-pos}
use native.Mathlib.Omega.{arith}
use borrow.Author.Tests.{eqb-false, leb-true}
use lib.Dec.{eqb, ltb, leb}
use Rattle.laws.proofs.Tests.{and_left}
use Rattle.basics.specs.Nnz.{blk_idx}
use Rattle.maps.specs.Neighbours.{Side}
use Rattle.macroblock.specs.declared.place.Place.{Place}
use Rattle.basics.specs.declared.marks.Sides.{Sides}
use Rattle.cut.specs.Cut.{scan_x, scan_y, sides_of, square_sides}
use Rattle.maps.specs.Neighbours.Side.{A, B, C, D}
use Rattle.cut.specs.inner.Blocks.{Scan}
use Rattle.cut.proofs.Sides.{above_is, left_is, corner_is, right_is}
use Rattle.macroblock.specs.Square.{place_of}
use Rattle.macroblock.specs.inner.Blocks.{BlockIn, SidesIn, StandsIn}

-- ---- blocks of side q, m across, in the square of a macroblock
-- block line z of m ends where or before the square does
line : (q m z w : ℕ) → w < m → (z * m + w) * q + q ≤ z * (q * m) + q * m
line q m z w h =
    let l : suc w * q ≤ m * q = mul-le-mul_right q h in
    let e : z * (q * m) ≡ z * m * q = ap (λ n. z * n) (mul_comm q m) ∙ sym (mul_assoc z m q) in
    omega (arith, add-mul (z * m) w q, suc-mul w q, mul_comm q m)

by : {P : Type 0} (t p q : Bool) → (t ≡ true → p ≡ true → P) → (t ≡ false → q ≡ true → P) → cond t p q ≡ true → P
by true p q f g e = f refl e
by false p q f g e = g refl e

-- a block of a square that lies in its plane lies there too
pub in_block_lem : (q m k : ℕ) {n : ℕ} {p : Place} → Scan m → 0 < q → k < m * m → BlockIn (q * m) p n → BlockIn q (place_of m p k) n
in_block_lem q m k {n} {p} S some hk F =
    let a = line q m p.row (scan_y k) (S.y_lt k hk) in
    let b = line q m p.column (scan_x k) (S.x_lt k hk) in
    let h : ((p.row * m + scan_y k) * q + (q - 1)) * p.stride ≤ (p.row * (q * m) + (q * m - 1)) * p.stride = mul-le-mul_right p.stride (omega arith) in
    record { some = some; short = F.short; wide = omega (arith, F.wide); within = omega (arith, F.within) }

-- and so do its sides
module _ (q m k : ℕ) {n : ℕ} {p : Place} (marks : Side → Bool) (S : Scan m) (some : 0 < q) (hk : k < m * m) (T : StandsIn (q * m) p n (square_sides marks)) where
  abbrev U : ℕ
  U = scan_x k

  abbrev W : ℕ
  W = scan_y k

  abbrev N : SidesIn (q * m) p (square_sides marks)
  N = T.beside

  row_pos : 0 < p.row → 0 < p.row * m + W
  row_pos h = omega (arith, mul-pos h S.some)

  column_pos : 0 < p.column → 0 < p.column * m + U
  column_pos h = omega (arith, mul-pos h S.some)

  on_left : cond (eqb U 0) (marks A) true ≡ true → 0 < p.column * m + U
  on_left = by (eqb U 0) (marks A) true (λ t e. column_pos (N.on_left e)) (λ t e. let z : U ≡ 0 → ⊥ = eqb-false U 0 t in omega arith)

  -- where the next block to the right is in the macroblock, and where it is in C
  next_in : leb (U + 2) m ≡ true → (p.column * m + U) * q + q + q ≤ p.stride
  next_in t = omega (arith, line q m p.column (U + 1) (omega (arith, leb-true (U + 2) m t)), add-mul (p.column * m + U) 1 q, T.block.wide)

  next_beyond : p.column * (q * m) + q * m + q * m ≤ p.stride → (p.column * m + U) * q + q + q ≤ p.stride
  next_beyond h = omega (arith, line q m p.column U (S.x_lt k hk), mul-le-mul_left q S.some)

  pub stands_block : StandsIn q (place_of m p k) n (sides_of m marks k)
  stands_block = record {
    block = in_block_lem q m k S some hk T.block;
    beside = record {
      on_above = λ e.
          by (eqb W 0) (marks B) true (λ t e. row_pos (N.on_above e)) (λ t e. let z : W ≡ 0 → ⊥ = eqb-false W 0 t in omega arith) (above_is m k marks (S.x_lt k hk) ∙ e);
      on_left = λ e. on_left (left_is m k marks (S.x_lt k hk) ∙ e);
      on_corner = λ e.
          by (eqb W 0) (cond (eqb U 0) (marks D) (marks B)) (cond (eqb U 0) (marks A) true)
          (λ t. by (eqb U 0) (marks D) (marks B) (λ t' e. (row_pos (N.on_corner e).0, column_pos (N.on_corner e).1))
          (λ t' e. let z : U ≡ 0 → ⊥ = eqb-false U 0 t' in (row_pos (N.on_above e), omega arith)))
          (λ t e. let z : W ≡ 0 → ⊥ = eqb-false W 0 t in (omega arith, on_left e)) (corner_is m k marks (S.x_lt k hk) ∙ e);
      on_above_right = λ e.
          by (eqb W 0) (cond (leb (U + 2) m) (marks B) (marks C)) (leb (U + 2) m && ltb (blk_idx (U + 1) (W - 1)) k)
          (λ t. by (leb (U + 2) m) (marks B) (marks C) (λ t' e. (row_pos (N.on_above e), next_in t')) (λ t' e. (row_pos (N.on_above_right e).0, next_beyond (N.on_above_right e).1)))
          (λ t e. let z : W ≡ 0 → ⊥ = eqb-false W 0 t in (omega arith, next_in (and_left (leb (U + 2) m) (ltb (blk_idx (U + 1) (W - 1)) k) e))) (right_is m k marks ∙ e);
    };
  }

-- the same of the place and the sides that the code found
pub stands_at : (q m k : ℕ) {n : ℕ} {p block : Place} {sides : Sides} (marks : Side → Bool) → Scan m → 0 < q → k < m * m → StandsIn (q * m) p n (square_sides marks)
    → block ≡ place_of m p k → sides ≡ sides_of m marks k → StandsIn q block n sides
stands_at q m k marks S some hk T e f = rw (e, f) (stands_block q m k marks S some hk T)
