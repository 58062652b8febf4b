-- How large the values of the three steps get, over a bound of the eight numbers that go in. Assumes nothing.
use mathlib.Core.List.{List}
use mathlib.Core.Bool.{true}
use mathlib.Core.Path.{◌≡◌}
use Prim.Native.Nat.{ℕ, ◌+◌, ◌*◌, ◌/◌, ◌%◌, ◌≤◌, ◌<◌}
use native.Mathlib.Nat.{div-add-mod', mod-lt}
use native.Mathlib.Omega.{arith}
use lib.Dec.{lit<}
use lib.IntN.{ℤ, pos, negsuc, neg_ℤ, ◌+ℤ◌, ◌-ℤ◌}
use lib.Signed.{shr_z}
use Rattle.laws.specs.Range.{Within, AllWithin, at}
use Rattle.laws.proofs.Ints.{up, dn, parts_add, parts_neg, abs_add, within_neg, within_table, parts_abs, parts_shr}
use Rattle.numbers.specs.Numbers.{all_in_range}
use Rattle.numbers.proofs.InRange.{all_within}
use Rattle.residual.proofs.Transform.{rounded_small}
use Rattle.transform_8x8.specs.Bounds.{Bounds}
use Rattle.transform_8x8.specs.Inverse8x8.{first_step, second_step, third_step, e_row, f_row, g_row, h_column, k_column, m_column, inverse8x8}
use Rattle.transform_8x8.proofs.Eights.{eight_within}

plus : {j k : ℕ} (x y : ℤ) → Within j x → Within k y → Within (j + k) (x +ℤ y)
plus x y h g = record { within = omega (arith, h.within, g.within, abs_add x y) }

less : {j k : ℕ} (x y : ℤ) → Within j x → Within k y → Within (j + k) (x -ℤ y)
less {j} {k} x y h g = plus x (neg_ℤ y) h (within_neg k y g)

at_most : {j k : ℕ} {x : ℤ} → j ≤ k → Within j x → Within k x
at_most e h = record { within = omega (arith, h.within) }

half : {k : ℕ} (j : ℕ) (x : ℤ) → k ≤ 2 * j → Within k x → Within j (shr_z x 2)
half j x e h = record { within = omega (arith, h.within, parts_abs x, parts_abs (shr_z x 2), parts_shr 2 x (lit< tt)) }

-- a shifted number by its parts: m times it is at most the number, and more than that less m
shift : (m : ℕ) (x : ℤ) → 0 < m → (m * up (shr_z x m) + dn x ≤ up x + m * dn (shr_z x m)) × (up x + m * dn (shr_z x m) < m * up (shr_z x m) + dn x + m)
unfolding up dn
shift m (pos a) h = (omega (arith, div-add-mod' a m, mod-lt a h), omega (arith, div-add-mod' a m, mod-lt a h))
shift m (negsuc a) h = (omega (arith, div-add-mod' a m, mod-lt a h), omega (arith, div-add-mod' a m, mod-lt a h))

parts_within : {k : ℕ} (x : ℤ) → Within k x → up x + dn x ≤ k
parts_within x h = omega (arith, h.within, parts_abs x)

-- sums of four by their parts
sum_parts : (a b c d : ℤ) → let x = a +ℤ b +ℤ c +ℤ d in up x + (dn a + dn b + dn c + dn d) ≡ (up a + up b + up c + up d) + dn x
sum_parts a b c d = omega (arith, parts_add a b, parts_add (a +ℤ b) c, parts_add (a +ℤ b +ℤ c) d)

-- a number and a quarter of another: four times it is four times the one and the other, but for what a shift drops
module _ (u : ℕ) (r x : ℤ) where
  abbrev Sum : Type 0
  Sum = (4 * up r + up x ≤ 4 * dn r + dn x + 124 * u) × (4 * dn r + dn x ≤ 4 * up r + up x + 124 * u)

  abbrev Difference : Type 0
  Difference = (4 * up r + dn x ≤ 4 * dn r + up x + 124 * u) × (4 * dn r + up x ≤ 4 * up r + dn x + 124 * u)

  plus_quarter : Sum → Within (31 * u) (r +ℤ shr_z x 4)
  plus_quarter (a, b) = record { within = omega (arith, shift 4 x (lit< tt), parts_add r (shr_z x 4), parts_abs (r +ℤ shr_z x 4)) }

  less_quarter : Difference → Within (31 * u) (r -ℤ shr_z x 4)
  less_quarter (a, b) = record { within = omega (arith, shift 4 x (lit< tt), parts_neg (shr_z x 4), parts_add r (neg_ℤ (shr_z x 4)), parts_abs (r -ℤ shr_z x 4)) }

  quarter_less : Difference → Within (31 * u) (shr_z x 4 -ℤ r)
  quarter_less (a, b) = record { within = omega (arith, shift 4 x (lit< tt), parts_neg r, parts_add (shr_z x 4) (neg_ℤ r), parts_abs (shr_z x 4 -ℤ r)) }

-- eight numbers within 8u go in: the even places stay smaller than the odd ones
module _ (u : ℕ) (d : ℕ → ℤ) (w : (k : ℕ) → Within (8 * u) (d k)) where
  h : (k : ℕ) → Within (4 * u) (shr_z (d k) 2)
  h k = half (4 * u) (d k) (omega arith) (w k)

  record First (e : ℕ → ℤ) : Type 0 where
    pub e0 : Within (16 * u) (e 0)
    pub e1 : Within (28 * u) (e 1)
    pub e2 : Within (16 * u) (e 2)
    pub e3 : Within (28 * u) (e 3)
    pub e4 : Within (12 * u) (e 4)
    pub e5 : Within (28 * u) (e 5)
    pub e6 : Within (12 * u) (e 6)
    pub e7 : Within (28 * u) (e 7)

  record Second (f : ℕ → ℤ) : Type 0 where
    pub f0 : Within (28 * u) (f 0)
    pub f1 : Within (31 * u) (f 1)
    pub f2 : Within (28 * u) (f 2)
    pub f3 : Within (31 * u) (f 3)
    pub f4 : Within (28 * u) (f 4)
    pub f5 : Within (31 * u) (f 5)
    pub f6 : Within (28 * u) (f 6)
    pub f7 : Within (31 * u) (f 7)

  first : First (at (first_step d))
  unfolding first_step
  first = record {
    e0 = at_most (omega arith) (plus _ _ (w 0) (w 4));
    e1 = at_most (omega arith) (less _ _ (less _ _ (plus _ _ (within_neg _ _ (w 3)) (w 5)) (w 7)) (h 7));
    e2 = at_most (omega arith) (less _ _ (w 0) (w 4));
    e3 = at_most (omega arith) (less _ _ (less _ _ (plus _ _ (w 1) (w 7)) (w 3)) (h 3));
    e4 = at_most (omega arith) (less _ _ (h 2) (w 6));
    e5 = at_most (omega arith) (plus _ _ (plus _ _ (plus _ _ (within_neg _ _ (w 1)) (w 7)) (w 5)) (h 5));
    e6 = at_most (omega arith) (plus _ _ (w 2) (h 6));
    e7 = at_most (omega arith) (plus _ _ (plus _ _ (plus _ _ (w 3) (w 5)) (w 1)) (h 1));
  }

  -- e1 with e7, and e3 with e5: of what an odd place takes from d1, d3, d5 and d7 part cancels out
  abbrev e : ℕ → ℤ
  e = at (first_step d)

  pair_1_7 : Sum u (e 1) (e 7) × Difference u (e 7) (e 1)
  unfolding first_step
  pair_1_7 =
      omega (
        arith,
        sum_parts (neg_ℤ (d 3)) (d 5) (neg_ℤ (d 7)) (neg_ℤ (shr_z (d 7) 2)),
        sum_parts (d 3) (d 5) (d 1) (shr_z (d 1) 2),
        parts_neg (d 3),
        parts_neg (d 7),
        parts_neg (shr_z (d 7) 2),
        parts_within (d 1) (w 1),
        parts_within (d 3) (w 3),
        parts_within (d 5) (w 5),
        parts_within (d 7) (w 7),
        parts_within (shr_z (d 7) 2) (h 7),
        parts_within (shr_z (d 1) 2) (h 1),
      )

  pair_3_5 : Sum u (e 3) (e 5) × Difference u (e 5) (e 3)
  unfolding first_step
  pair_3_5 =
      omega (
        arith,
        sum_parts (d 1) (d 7) (neg_ℤ (d 3)) (neg_ℤ (shr_z (d 3) 2)),
        sum_parts (neg_ℤ (d 1)) (d 7) (d 5) (shr_z (d 5) 2),
        parts_neg (d 1),
        parts_neg (d 3),
        parts_neg (shr_z (d 3) 2),
        parts_within (d 1) (w 1),
        parts_within (d 3) (w 3),
        parts_within (d 5) (w 5),
        parts_within (d 7) (w 7),
        parts_within (shr_z (d 3) 2) (h 3),
        parts_within (shr_z (d 5) 2) (h 5),
      )

  second : Second (at (second_step e))
  unfolding second_step
  second =
      let b = first in
      record {
        f0 = at_most (omega arith) (plus _ _ b.e0 b.e6);
        f1 = plus_quarter u (e 1) (e 7) pair_1_7.0;
        f2 = at_most (omega arith) (plus _ _ b.e2 b.e4);
        f3 = plus_quarter u (e 3) (e 5) pair_3_5.0;
        f4 = at_most (omega arith) (less _ _ b.e2 b.e4);
        f5 = quarter_less u (e 5) (e 3) pair_3_5.1;
        f6 = at_most (omega arith) (less _ _ b.e0 b.e6);
        f7 = less_quarter u (e 7) (e 1) pair_1_7.1;
      }

  pub first_all : AllWithin (28 * u) (first_step d)
  unfolding first_step
  first_all =
      let b = first in
      eight_within (at_most (omega arith) b.e0) b.e1 (at_most (omega arith) b.e2) b.e3 (at_most (omega arith) b.e4) b.e5
      (at_most (omega arith) b.e6) b.e7

  pub second_all : AllWithin (31 * u) (second_step e)
  unfolding second_step
  second_all =
      let b = second in
      eight_within (at_most (omega arith) b.f0) b.f1 (at_most (omega arith) b.f2) b.f3 (at_most (omega arith) b.f4) b.f5
      (at_most (omega arith) b.f6) b.f7

  pub third_all : AllWithin (59 * u) (third_step (at (second_step e)))
  unfolding third_step
  third_all =
      let b = second in
      eight_within (at_most (omega arith) (plus _ _ b.f0 b.f7)) (at_most (omega arith) (plus _ _ b.f2 b.f5))
      (at_most (omega arith) (plus _ _ b.f4 b.f3)) (at_most (omega arith) (plus _ _ b.f6 b.f1))
      (at_most (omega arith) (less _ _ b.f6 b.f1)) (at_most (omega arith) (less _ _ b.f4 b.f3))
      (at_most (omega arith) (less _ _ b.f2 b.f5)) (at_most (omega arith) (less _ _ b.f0 b.f7))

-- 32768 is 8 * 4096, and the columns begin with 59 * 4096, which is 8 * 30208
pub bounds : (d : List ℤ) → all_in_range d ≡ true → Bounds d
unfolding e_row f_row g_row h_column k_column m_column inverse8x8
bounds d ok = record {
  in_range_lem = all_within d ok;
  e = λ i. first_all 4096 (row i) (small i);
  f = λ i. second_all 4096 (row i) (small i);
  g = λ i. third_all 4096 (row i) (small i);
  h = λ j. first_all 30208 (column j) (large j);
  k = λ j. second_all 30208 (column j) (large j);
  m = λ j. third_all 30208 (column j) (large j);
  r = within_table 27848 64 _ (λ k _. rounded_small 27848 _ ((third_all 30208 (column (k % 8)) (large (k % 8))).each (k / 8)));
}
  where
    row : ℕ → ℕ → ℤ
    row i j = at d (8 * i + j)

    small : (i j : ℕ) → Within 32768 (row i j)
    small i j = (all_within d ok).each (8 * i + j)

    column : ℕ → ℕ → ℤ
    column j i = at (g_row d i) j

    large : (j i : ℕ) → Within 241664 (column j i)
    large j i = (third_all 4096 (row i) (small i)).each j
