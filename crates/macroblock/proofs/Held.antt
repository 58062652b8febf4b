-- The samples beside a block lie in an earlier block of its macroblock or in a marked neighbour: by Table 6-3, case by case. For every cut. Assumes nothing.
use mathlib.Core.Path.{◌≡◌, sym, ap, subst, ◌∙◌}
use mathlib.Core.Logic.{◌⊎◌, inl, inr}
use mathlib.Core.Bool.{Bool}
use Prim.Native.Nat.{ℕ, zero, suc, ◌+◌, ◌*◌, ◌-◌, ◌/◌, ◌<◌, ◌≤◌}
use native.Mathlib.Nat.{suc-mul, mul-le-mul_right, not-suc-le-zero, lt-div-mul-add, div-div-eq-div-mul, mul-pos}
use native.Mathlib.Omega.{arith}
use lib.Arith.{digits_div, digits_mod}
use lib.Dec.{T}
use Rattle.laws.proofs.Tests.{T_true}
use Rattle.basics.specs.Nnz.{blk_idx}
use Rattle.maps.specs.Neighbours.{Side, beside_x, beside_y}
use Rattle.cut.specs.Cut.{scan_x, scan_y, holder_at, next_x, next_y, held_by, is_there, square_sides}
use Rattle.maps.specs.Neighbours.Side.{A, B, C, D}
use Rattle.cut.specs.inner.Blocks.{Scan}
use Rattle.cut.proofs.Holders.{by_holder}
use Rattle.macroblock.specs.Square.{place_at, place_of}
use Rattle.macroblock.specs.inner.Blocks.{SidesIn}
use Rattle.macroblock.proofs.Places.{At, at_of}

-- the row and the column of sample t on a side of the block of side q in row Y and column Z of blocks
abbrev pub row_at : (q Y : ℕ) → Side → ℕ → ℕ
row_at q Y A t = Y * q + t
row_at q Y B t = Y * q - 1
row_at q Y C t = Y * q - 1
row_at q Y D t = Y * q - 1

abbrev pub column_at : (q Z : ℕ) → Side → ℕ → ℕ
column_at q Z A t = Z * q - 1
column_at q Z B t = Z * q + t
column_at q Z C t = (Z + 1) * q + t
column_at q Z D t = Z * q - 1

-- the last row before row z * m
last_div : (m z : ℕ) → 0 < m → 0 < z → (z * m - 1) / m ≡ z - 1
last_div m zero hm hz = absurd (not-suc-le-zero hz)
last_div m (suc z) hm hz = ap (λ n. n / m) (let e : suc z * m - 1 ≡ z * m + (m - 1) = omega (arith, suc-mul z m) in e) ∙ digits_div z (omega arith) ∙ omega arith

-- so a sample beside a block lies in the block beside it
row_div : (q z v t : ℕ) (d : Side) → t < q → 0 < z + next_y v d → row_at q (z + v) d t / q ≡ z + next_y v d - 1
row_div q z v t A ht h = digits_div (z + v) ht ∙ omega arith
row_div q z v t B ht h = last_div q (z + v) (omega arith) h
row_div q z v t C ht h = last_div q (z + v) (omega arith) h
row_div q z v t D ht h = last_div q (z + v) (omega arith) h

column_div : (q z u t : ℕ) (d : Side) → t < q → 0 < z + next_x u d → column_at q (z + u) d t / q ≡ z + next_x u d - 1
column_div q z u t A ht h = last_div q (z + u) (omega arith) h
column_div q z u t B ht h = digits_div (z + u) ht ∙ omega arith
column_div q z u t C ht h = digits_div (z + u + 1) ht ∙ omega arith
column_div q z u t D ht h = last_div q (z + u) (omega arith) h

-- ---- one axis: place i, one more than it is in macroblock z of m blocks
inside : (m z i : ℕ) → 0 < i → i ≤ m → (z * m + i - 1) / m ≡ z
inside m z i h l = ap (λ n. n / m) (let e : z * m + i - 1 ≡ z * m + (i - 1) = omega arith in e) ∙ digits_div z (omega arith)

before : (m z i : ℕ) → 0 < m → 0 < z → i ≡ 0 → (z * m + i - 1) / m ≡ z - 1
before m z i hm hz e = ap (λ n. (n - 1) / m) (let f : z * m + i ≡ z * m = omega arith in f) ∙ last_div m z hm hz

after : (m z i : ℕ) → 0 < m → i ≡ m + 1 → (z * m + i - 1) / m ≡ z + 1
after m z i hm e = ap (λ n. n / m) (let f : z * m + i - 1 ≡ (z + 1) * m + 0 = omega arith in f) ∙ digits_div (z + 1) hm

-- a column of samples in macroblock column z lies in the plane's width
in_width : (q m s n b z : ℕ) → 0 < q → 0 < m → z * (q * m) + q * m ≤ s → n / q ≡ b → b / m ≡ z → n < s
in_width q m s n b z hq hm hs e f =
    let g : n / (q * m) ≡ z = sym (div-div-eq-div-mul n q m) ∙ ap (λ n. n / m) e ∙ f in
    let l : n < z * (q * m) + q * m = subst (λ w. n < w * (q * m) + q * m) g (lt-div-mul-add (mul-pos hq hm)) in
    omega arith

-- so does the macroblock before
narrower : (x z s : ℕ) → x * z + z ≤ s → (x - 1) * z + z ≤ s
narrower x z s h = let l : (x - 1) * z ≤ x * z = mul-le-mul_right z (omega arith) in omega arith

-- ---- for a block of a macroblock whose marked neighbours are there
module _ (q m s x y : ℕ) (marks : Side → Bool) (k : ℕ) (some : 0 < q) (S : Scan m) (hk : k < m * m) (wide : x * (q * m) + q * m ≤ s)
    (N : SidesIn (q * m) (place_at s y x) (square_sides marks)) where
  -- place i lies in an earlier block, or in a marked neighbour
  abbrev pub Held : ℕ → Type 0
  Held i =
      ((j : ℕ) × (j < k) × At q (place_of m (place_at s y x) j) i)
      ⊎ ((d : Side) × T (marks d) × At (q * m) (place_at s (beside_y y d) (beside_x x d)) i)

  -- sample row R and column E, in block row y * m + j - 1 and block column x * m + i - 1
  module _ (R E i j : ℕ) (hi : i ≤ m + 1) (hj : j ≤ m) (row : 0 < y * m + j → R / q ≡ y * m + j - 1) (column : 0 < x * m + i → E / q ≡ x * m + i - 1) where
    beyond : (d : Side) → T (marks d) → 0 < y * m + j → 0 < x * m + i → beside_x x d * (q * m) + q * m ≤ s
        → (y * m + j - 1) / m ≡ beside_y y d → (x * m + i - 1) / m ≡ beside_x x d → Held (R * s + E)
    beyond d t h g w e f =
        let l : E < s = in_width q m s E (x * m + i - 1) (beside_x x d) some S.some w (column g) f in
        inr (
          d,
          t,
          at_of (q * m) (place_at s (beside_y y d) (beside_x x d)) (R * s + E)
              (rw (digits_div R l) (sym (div-div-eq-div-mul R q m) ∙ ap (λ z. z / m) (row h) ∙ e))
              (rw (digits_mod R l) (sym (div-div-eq-div-mul E q m) ∙ ap (λ z. z / m) (column g) ∙ f)),
        )

    earlier : 0 < i → i ≤ m → 0 < j → blk_idx (i - 1) (j - 1) < k → Held (R * s + E)
    earlier h l g b =
        let n = blk_idx (i - 1) (j - 1) in
        let ey : R / q ≡ y * m + scan_y n = row (omega arith) ∙ (let e = S.of_y (i - 1) (j - 1) (omega arith) (omega arith) in omega arith) in
        let ex : E / q ≡ x * m + scan_x n = column (omega arith) ∙ (let e = S.of_x (i - 1) (j - 1) (omega arith) (omega arith) in omega arith) in
        let w : E < s = in_width q m s E (x * m + i - 1) x some S.some wide (column (omega arith)) (inside m x i h l) in
        inl (n, b, at_of q (place_of m (place_at s y x) n) (R * s + E) (rw (digits_div R w) ey) (rw (digits_mod R w) ex))

    held_at : T (held_by marks (holder_at m k i j)) → Held (R * s + E)
    held_at = by_holder m k i j marks
        (λ zi zj t.
        let h = N.on_corner (T_true (marks D) t) in
        let p₁ = mul-pos h.0 S.some in let p₂ = mul-pos h.1 S.some in
        beyond D t (omega arith) (omega arith) (narrower x (q * m) s wide) (before m y j S.some h.0 zj) (before m x i S.some h.1 zi))
        (λ pi li zj t.
        let h = N.on_above (T_true (marks B) t) in
        let p₁ = mul-pos h S.some in
        beyond B t (omega arith) (omega arith) wide (before m y j S.some h zj) (inside m x i pi li))
        (λ gi zj t.
        let h = N.on_above_right (T_true (marks C) t) in
        let p₁ = mul-pos h.0 S.some in
        beyond C t (omega arith) (omega arith) (omega (arith, h.1)) (before m y j S.some h.0 zj) (after m x i S.some (omega arith)))
        (λ zi pj t.
        let h = N.on_left (T_true (marks A) t) in
        let p₂ = mul-pos h S.some in
        beyond A t (omega arith) (omega arith) (narrower x (q * m) s wide) (inside m y j pj hj) (before m x i S.some h zi))
        earlier

  -- where the next block stands
  next_x_lem : (d : Side) → next_x (scan_x k) d ≤ m + 1
  next_x_lem A = omega (arith, S.x_lt k hk)
  next_x_lem B = omega (arith, S.x_lt k hk)
  next_x_lem C = omega (arith, S.x_lt k hk)
  next_x_lem D = omega (arith, S.x_lt k hk)

  next_y_lem : (d : Side) → next_y (scan_y k) d ≤ m
  next_y_lem A = omega (arith, S.y_lt k hk)
  next_y_lem B = omega (arith, S.y_lt k hk)
  next_y_lem C = omega (arith, S.y_lt k hk)
  next_y_lem D = omega (arith, S.y_lt k hk)

  -- a sample on a side that is there
  pub held : (d : Side) (t : ℕ) → t < q → T (is_there m marks k d) → Held (row_at q (y * m + scan_y k) d t * s + column_at q (x * m + scan_x k) d t)
  unfolding is_there
  held d t ht h =
      held_at (row_at q (y * m + scan_y k) d t) (column_at q (x * m + scan_x k) d t) (next_x (scan_x k) d) (next_y (scan_y k) d) (next_x_lem d) (next_y_lem d)
      (row_div q (y * m) (scan_y k) t d ht) (column_div q (x * m) (scan_x k) t d ht) h
