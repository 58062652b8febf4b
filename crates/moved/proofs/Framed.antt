-- A square and what touches it, in blocks counted from one before the square: where the samples beside a block are, and what the blocks put so far leave
-- there. For every cut and every rule. Assumes nothing.
use mathlib.Core.Path.{◌≡◌, refl, sym, ap, ap₂, ◌∙◌}
use mathlib.Core.Bool.{Bool}
use mathlib.Core.List.{List}
use Prim.Native.Nat.{ℕ, zero, suc, ◌+◌, ◌*◌, ◌-◌, ◌/◌, ◌%◌, ◌<◌, ◌≤◌}
use native.Mathlib.Nat.{div-add-mod', add-mul, suc-mul, mul_comm, mul_assoc, mul-pos, mul-le-mul_right, le_of_suc-le, div-lt_iff_lt-mul}
use native.Mathlib.Omega.{arith}
use lib.Arith.{digits_div, digits_mod}
use lib.Dec.{T}
use lib.ListN.{get_or, length}
use Rattle.laws.specs.Steps.{up_to}
use Rattle.laws.proofs.Digits.{Placed, placed, pred_mul}
use Rattle.laws.proofs.Tests.{T_true}
use Rattle.order.specs.Parts.{Parts}
use Rattle.order.proofs.Parts.{parts_ok}
use Rattle.maps.specs.Neighbours.{Side}
use Rattle.maps.specs.Neighbours.Side.{A, B, C, D}
use Rattle.cut.specs.Cut.{Cut, scan_x, scan_y, next_x, next_y, sides_of, square_sides}
use Rattle.cut.specs.inner.Blocks.{Scan}
use Rattle.macroblock.specs.Square.{place_at, place_of, Rule, part_near, part}
use Rattle.macroblock.specs.inner.Blocks.{StandsIn}
use Rattle.macroblock.proofs.Held.{row_at, column_at}
use Rattle.macroblock.proofs.Locality.{Outside, InPart, block_in, put_at, parts}
use Rattle.macroblock.proofs.Places.{At, at_of, at_row, at_column}
use Rattle.macroblock.proofs.Sides.{in_block_lem}
use Rattle.moved.specs.Moved.{Site, touching}

-- the last line before line z * w is in no square but the one before
line_before : (z w n : ℕ) → 0 < z → 0 < w → n ≡ z * w - 1 → ¬ (n / w ≡ z)
line_before z w n hz hw e f =
    let g : z * w + n % w ≡ n = ap (λ m. m * w + n % w) (sym f) ∙ div-add-mod' n w in
    omega (arith, mul-pos hz hw)

-- the column and the row of sample t of a side, in the block that holds it
abbrev pub column_in : ℕ → Side → ℕ → ℕ
column_in q A t = q - 1
column_in q B t = t
column_in q C t = t
column_in q D t = q - 1

abbrev pub row_in : ℕ → Side → ℕ → ℕ
row_in q A t = t
row_in q B t = q - 1
row_in q C t = q - 1
row_in q D t = q - 1

-- ---- lines: sample line r of block line j, counted from one before square z of m blocks of q
abbrev pub line : (q m z j r : ℕ) → ℕ
line q m z j r = z * (q * m) + (j * q + r) - q

pub whole_mul : (q m z : ℕ) → z * (q * m) ≡ z * m * q
whole_mul q m z = ap (λ n. z * n) (mul_comm q m) ∙ sym (mul_assoc z m q)

pub row_line : (q m z v t : ℕ) (d : Side) → 0 < q → row_at q (z * m + v) d t ≡ line q m z (next_y v d) (row_in q d t)
row_line q m z v t A h = omega (arith, whole_mul q m z, add-mul (z * m) v q, add-mul v 1 q)
row_line q m z v t B h = omega (arith, whole_mul q m z, add-mul (z * m) v q)
row_line q m z v t C h = omega (arith, whole_mul q m z, add-mul (z * m) v q)
row_line q m z v t D h = omega (arith, whole_mul q m z, add-mul (z * m) v q)

pub column_line : (q m z v t : ℕ) (d : Side) → 0 < q → column_at q (z * m + v) d t ≡ line q m z (next_x v d) (column_in q d t)
column_line q m z v t A h = omega (arith, whole_mul q m z, add-mul (z * m) v q)
column_line q m z v t B h = omega (arith, whole_mul q m z, add-mul (z * m) v q, add-mul v 1 q)
column_line q m z v t C h = omega (arith, whole_mul q m z, add-mul (z * m) v q, add-mul (z * m + v) 1 q, add-mul v 2 q)
column_line q m z v t D h = omega (arith, whole_mul q m z, add-mul (z * m) v q)

-- the first block line is the one before the square, one further on is block line j - 1 of it, and the last is the first of the next square
pub first_line : (q m z r : ℕ) → suc r ≡ q → line q m z 0 r ≡ z * (q * m) - 1
first_line q m z r e = omega arith

pub inner_line : (q m z j r : ℕ) → 0 < j → line q m z j r ≡ z * (q * m) + ((j - 1) * q + r)
inner_line q m z j r h = omega (arith, pred_mul j q h)

pub block_line : (q m z j r : ℕ) → 0 < j → line q m z j r ≡ (z * m + (j - 1)) * q + r
block_line q m z j r h = omega (arith, pred_mul j q h, whole_mul q m z, add-mul (z * m) (j - 1) q)

pub next_line : (q m z r : ℕ) → line q m z (m + 1) r ≡ (z + 1) * (q * m) + r
next_line q m z r = omega (arith, add-mul m 1 q, add-mul z 1 (q * m), mul_comm q m)

-- a line of one of its blocks is a line of the square, and the other way round
pub line_in : (q m j r : ℕ) → j < m → r < q → j * q + r < q * m
line_in q m j r hj hr = let l : suc j * q ≤ m * q = mul-le-mul_right q hj in omega (arith, suc-mul j q, mul_comm q m)

pub line_of : (q m i : ℕ) → 0 < q → i < q * m → i / q < m
line_of q m i some h = (div-lt_iff_lt-mul some).1 (omega (arith, mul_comm q m))

-- ---- a macroblock at one place, whose blocks are put one after the other
module _ (c : Cut) (rule : Rule) (marks : Side → Bool) (S : Scan c.across) (some : 0 < c.side) (reach : c.wide ≤ 2 * c.side) (u : Site)
    (stands : StandsIn (c.side * c.across) (place_at u.stride u.y u.x) (length u.plane) (square_sides marks)) where
  abbrev q : ℕ
  q = c.side

  abbrev m : ℕ
  m = c.across

  abbrev w : ℕ
  w = c.side * c.across

  abbrev put : ℕ → List ℕ → List ℕ
  put k plane = part c rule u.stride u.x u.y marks k plane

  -- the plane with its first k blocks put
  abbrev pub with_first : ℕ → List ℕ
  with_first k = up_to (part c rule u.stride u.x u.y marks) k u.plane

  by_parts : Parts (λ p i. get_or p i 0) (λ p. length p ≡ length u.plane) (Outside c rule (length u.plane) u.stride u.x u.y marks S some reach stands)
      (c.across * c.across) (InPart c.side c.across (place_at u.stride u.y u.x) S) (part c rule u.stride u.x u.y marks)
  by_parts = parts c rule (length u.plane) u.stride u.x u.y marks S some reach stands

  first_long : (k : ℕ) → k ≤ m * m → length (with_first k) ≡ length u.plane
  first_long k h = parts_ok by_parts u.plane k refl h

  -- ---- the samples that touch the square
  touch_is : (d : Side) (t : ℕ) → get_or u.plane (row_at w u.y d t * u.stride + column_at w u.x d t) 0 ≡ touching w u d t
  touch_is A t = refl
  touch_is B t = refl
  touch_is C t = refl
  touch_is D t = refl

  touch_short : (d : Side) (t : ℕ) → t < w → T (marks d) → column_at w u.x d t < u.stride
  touch_short A t ht h = omega (arith, stands.block.wide)
  touch_short B t ht h = omega (arith, stands.block.wide)
  touch_short C t ht h = omega (arith, (stands.beside.on_above_right (T_true (marks C) h)).1, add-mul u.x 1 w)
  touch_short D t ht h = omega (arith, stands.block.wide)

  -- they are not in it
  touch_out : (d : Side) (t : ℕ) → t < w → T (marks d) → ¬ At w (place_at u.stride u.y u.x) (row_at w u.y d t * u.stride + column_at w u.x d t)
  touch_out d t ht h i = go d h refl refl
    where
      l : column_at w u.x d t < u.stride
      l = touch_short d t ht h

      row : row_at w u.y d t / w ≡ u.y
      row = sym (ap (λ n. n / w) (digits_div (row_at w u.y d t) l)) ∙ at_row w (place_at u.stride u.y u.x) _ i

      column : column_at w u.x d t / w ≡ u.x
      column = sym (ap (λ n. n / w) (digits_mod (row_at w u.y d t) l)) ∙ at_column w (place_at u.stride u.y u.x) _ i

      go : (b : Side) → T (marks b) → row_at w u.y d t ≡ row_at w u.y b t → column_at w u.x d t ≡ column_at w u.x b t → ⊥
      go A v e f = line_before u.x w _ (stands.beside.on_left (T_true (marks A) v)) stands.block.some f column
      go B v e f = line_before u.y w _ (stands.beside.on_above (T_true (marks B) v)) stands.block.some e row
      go C v e f = line_before u.y w _ (stands.beside.on_above_right (T_true (marks C) v)).0 stands.block.some e row
      go D v e f = line_before u.y w _ (stands.beside.on_corner (T_true (marks D) v)).0 stands.block.some e row

  -- so they stay what they were
  pub touch_kept : (k : ℕ) → k ≤ m * m → (d : Side) (t : ℕ) → t < w → T (marks d)
      → get_or (with_first k) (row_at w u.y d t * u.stride + column_at w u.x d t) 0 ≡ touching w u d t
  unfolding up_to
  touch_kept zero h d t ht v = touch_is d t
  touch_kept (suc k) h d t ht v =
      by_parts.writes k (with_first k) _ h (first_long k (le_of_suc-le h)) (λ i. touch_out d t ht v (block_in q m (place_at u.stride u.y u.x) S k _ h i))
      ∙ touch_kept k (le_of_suc-le h) d t ht v

  -- ---- where the sample in row r and column e of block n is
  abbrev pub index_of : (n r e : ℕ) → ℕ
  index_of n r e = ((u.y * c.across + scan_y n) * c.side + r) * u.stride + ((u.x * c.across + scan_x n) * c.side + e)

  module _ (n r e : ℕ) (hn : n < m * m) (hr : r < q) (he : e < q) where
    is : Placed q u.stride (u.y * m + scan_y n) (u.x * m + scan_x n) r e (index_of n r e)
    is = placed q u.stride (u.y * m + scan_y n) (u.x * m + scan_x n) r e (index_of n r e) hr he (in_block_lem q m n S some hn stands.block).wide refl

    in_part_lem : InPart q m (place_at u.stride u.y u.x) S n (index_of n r e)
    in_part_lem = at_of q (place_of m (place_at u.stride u.y u.x) n) (index_of n r e) is.Y_is is.Z_is

    -- another block leaves it
    pub other_put : (k : ℕ) → k < m * m → ¬ (n ≡ k) → get_or (put k (with_first k)) (index_of n r e) 0 ≡ get_or (with_first k) (index_of n r e) 0
    other_put k hk d = by_parts.writes k (with_first k) (index_of n r e) hk (first_long k (le_of_suc-le hk)) (λ t. d (by_parts.apart n k (index_of n r e) hn hk in_part_lem t))

    -- its own puts it
    pub own_put : get_or (put n (with_first n)) (index_of n r e) 0 ≡ rule n (sides_of m marks n) (part_near c rule u.stride u.x u.y marks n (with_first n)) e r
    own_put =
        put_at c rule (length u.plane) u.stride u.x u.y marks S some reach stands n (with_first n) (index_of n r e) hn (first_long n (le_of_suc-le hn)) in_part_lem
        ∙ ap₂ (rule n (sides_of m marks n) (part_near c rule u.stride u.x u.y marks n (with_first n))) is.c_is is.r_is
