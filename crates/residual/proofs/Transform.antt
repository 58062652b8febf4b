-- The 4x4 inverse transform: how large its numbers grow, and its residuals by column. Assumes nothing.
use mathlib.Core.Path.{◌≡◌, sym, ap, ◌∙◌, subst}
use mathlib.Core.Bool.{true}
use mathlib.Core.List.{List, [], ◌∷◌}
use Prim.Native.Nat.{ℕ, zero, suc, ◌+◌, ◌*◌, ◌/◌, ◌%◌, ◌<◌}
use native.Mathlib.Omega.{arith}
use lib.IntN.{ℤ, pos, neg_ℤ, ◌+ℤ◌, ◌-ℤ◌}
use lib.Dec.{lit<}
use lib.Signed.{shr_z}
use mir.Syntax.{w16, w32}
use mir.Val.{SFits, to_z, of_z}
use mir.ValLaws.{to_z-of_z}
use Rattle.laws.specs.Range.{Within, AllWithin, at}
use Rattle.laws.proofs.Ints.{ints, within_more, within_neg, within_shr, within_short, within_table, abs_add, parts_add, parts_pos, parts_abs, parts_shr, back}
use Rattle.laws.proofs.Blockwise.{OfBlock}
use Rattle.laws.proofs.Tables.{length_table, table_same}
use Rattle.numbers.specs.Numbers.{all_in_range}
use Rattle.numbers.proofs.InRange.{all_within}
use Rattle.residual.specs.Inverse.{first_step, second_step, one_dimensional, rounded, e_row, f_row, g_column, h_column, inverse4x4}

-- a list that is a bounded one, and is bounded
pub bounded : {k : ℕ} {l m : List ℤ} → l ≡ m → AllWithin k m → (l ≡ m) × AllWithin k l
bounded {k} e a = (e, subst (AllWithin k) (sym e) a)

twice : (k : ℕ) (x y : ℤ) → Within k x → Within k y → Within (2 * k) (x +ℤ y)
twice k x y h g = record { within = omega (arith, h.within, g.within, abs_add x y) }

apart : (k : ℕ) (x y : ℤ) → Within k x → Within k y → Within (2 * k) (x -ℤ y)
apart k x y h g = twice k x (neg_ℤ y) h (within_neg k y g)

-- four numbers, one by one
pub four_within : {k : ℕ} {a b c d : ℤ} → Within k a → Within k b → Within k c → Within k d → AllWithin k (a ∷ b ∷ c ∷ d ∷ [])
four_within {k} {a} {b} {c} {d} p q r s = record { each = places }
  where
    places : (n : ℕ) → Within k (at (a ∷ b ∷ c ∷ d ∷ []) n)
    places zero = p
    places (suc zero) = q
    places (suc (suc zero)) = r
    places (suc (suc (suc zero))) = s
    places (suc (suc (suc (suc n)))) = record { within = omega arith }

-- each step doubles the bound
first_within : (k : ℕ) (d : ℕ → ℤ) → ((n : ℕ) → Within k (d n)) → AllWithin (2 * k) (first_step d)
unfolding first_step
first_within k d w = record { each = places }
  where
    places : (n : ℕ) → Within (2 * k) (at (first_step d) n)
    places zero = twice k (d 0) (d 2) (w 0) (w 2)
    places (suc zero) = apart k (d 0) (d 2) (w 0) (w 2)
    places (suc (suc zero)) = apart k (shr_z (d 1) 2) (d 3) (within_shr k 2 (d 1) (w 1)) (w 3)
    places (suc (suc (suc zero))) = twice k (d 1) (shr_z (d 3) 2) (w 1) (within_shr k 2 (d 3) (w 3))
    places (suc (suc (suc (suc n)))) = record { within = omega arith }

second_within : (k : ℕ) (e : ℕ → ℤ) → ((n : ℕ) → Within k (e n)) → AllWithin (2 * k) (second_step e)
unfolding second_step
second_within k e w = record { each = places }
  where
    places : (n : ℕ) → Within (2 * k) (at (second_step e) n)
    places zero = twice k (e 0) (e 3) (w 0) (w 3)
    places (suc zero) = twice k (e 1) (e 2) (w 1) (w 2)
    places (suc (suc zero)) = apart k (e 1) (e 2) (w 1) (w 2)
    places (suc (suc (suc zero))) = apart k (e 0) (e 3) (w 0) (w 3)
    places (suc (suc (suc (suc n)))) = record { within = omega arith }

pub one_within : (k : ℕ) (d : ℕ → ℤ) → ((n : ℕ) → Within k (d n)) → AllWithin (2 * (2 * k)) (one_dimensional d)
one_within k d w = second_within (2 * k) (at (first_step d)) (first_within k d w).each

-- two of four numbers are halved on the way
module _ (m : ℕ) (d : ℕ → ℤ) (w : (n : ℕ) → Within (2 * m) (d n)) where
  half : (n : ℕ) → Within m (shr_z (d n) 2)
  half n = record { within = omega (arith, (w n).within, parts_abs (d n), parts_abs (shr_z (d n) 2), parts_shr 2 (d n) (lit< tt)) }

  sum : (x y : ℤ) → Within (4 * m) x → Within (3 * m) y → Within (7 * m) (x +ℤ y)
  sum x y h g = record { within = omega (arith, h.within, g.within, abs_add x y) }

  difference : (x y : ℤ) → Within (4 * m) x → Within (3 * m) y → Within (7 * m) (x -ℤ y)
  difference x y h g = sum x (neg_ℤ y) h (within_neg (3 * m) y g)

  abbrev e : ℕ → ℤ
  e = at (first_step d)

  e0 : Within (4 * m) (e 0)
  unfolding first_step
  e0 = record { within = omega (arith, (w 0).within, (w 2).within, abs_add (d 0) (d 2)) }

  e1 : Within (4 * m) (e 1)
  unfolding first_step
  e1 = record { within = omega (arith, (w 0).within, (within_neg (2 * m) (d 2) (w 2)).within, abs_add (d 0) (neg_ℤ (d 2))) }

  e2 : Within (3 * m) (e 2)
  unfolding first_step
  e2 = record { within = omega (arith, (half 1).within, (within_neg (2 * m) (d 3) (w 3)).within, abs_add (shr_z (d 1) 2) (neg_ℤ (d 3))) }

  e3 : Within (3 * m) (e 3)
  unfolding first_step
  e3 = record { within = omega (arith, (w 1).within, (half 3).within, abs_add (d 1) (shr_z (d 3) 2)) }

  pub seven_within : AllWithin (7 * m) (one_dimensional d)
  unfolding second_step
  seven_within = record { each = places }
    where
      places : (n : ℕ) → Within (7 * m) (at (second_step e) n)
      places zero = sum (e 0) (e 3) e0 e3
      places (suc zero) = sum (e 1) (e 2) e1 e2
      places (suc (suc zero)) = difference (e 1) (e 2) e1 e2
      places (suc (suc (suc zero))) = difference (e 0) (e 3) e0 e3
      places (suc (suc (suc (suc n)))) = record { within = omega arith }

-- a coefficient in range, as the machine reads it
pub row_within : (d : List ℤ) (i : ℕ) → all_in_range d ≡ true → AllWithin 131072 (f_row d i)
unfolding e_row f_row
row_within d i e = one_within 32768 (λ j. at d (4 * i + j)) (λ j. (all_within d e).each (4 * i + j))

column_within : (d : List ℤ) (j : ℕ) → all_in_range d ≡ true → AllWithin 524288 (h_column d j)
unfolding g_column h_column
column_within d j e = one_within 131072 (λ i. at (f_row d i) j) (λ i. (row_within d i e).each j)

-- ( z + 32 ) >> 6, as the machine computes it
abbrev machine_rounded : ℤ → ℤ
machine_rounded z = to_z w32 (of_z w32 (shr_z (to_z w32 (of_z w32 (to_z w32 (of_z w32 z) +ℤ pos 32))) 64))

-- 2097088 is 64 * 32767
round_is : (z : ℤ) → Within 2097088 z → machine_rounded z ≡ rounded z
unfolding rounded
round_is z h = search ints depth 20

pub rounded_small : (k : ℕ) (z : ℤ) → Within (64 * k) z → Within k (rounded z)
unfolding rounded
rounded_small k z h =
    let x = z +ℤ pos 32 in
    record { within = omega (arith, h.within, parts_add z (pos 32), parts_pos 32, parts_abs z, parts_abs x, parts_abs (shr_z x 64), parts_shr 64 x (lit< tt)) }

-- so a rounded number has sixteen bits
rounded_short : (z : ℤ) → Within 2097088 z → SFits w16 (rounded z)
rounded_short z h = within_short (rounded_small 32767 z h)

pub round_short : (z : ℤ) → Within 2097088 z → SFits w16 (machine_rounded z) × (to_z w16 (of_z w16 (machine_rounded z)) ≡ rounded z)
round_short z h =
    let f = rounded_short z h in
    (subst (SFits w16) (sym (round_is z h)) f, ap (λ u. to_z w16 (of_z w16 u)) (round_is z h) ∙ to_z-of_z w16 (rounded z) f)

-- a rounded number of a column, as it is put
pub column_at_lem : {r z : ℤ} → r ≡ rounded (to_z w32 (of_z w32 z)) → Within 2097088 z → to_z w16 (of_z w16 r) ≡ rounded z
column_at_lem {r} {z} e h = ap (λ u. to_z w16 (of_z w16 u)) (e ∙ ap rounded (back 2097088 h tt)) ∙ to_z-of_z w16 (rounded z) (rounded_short z h)

-- residuals are small again
pub inverse_within : (d : List ℤ) → all_in_range d ≡ true → AllWithin 32768 (inverse4x4 d)
unfolding inverse4x4
inverse_within d e =
    within_table 32768 16 _ (λ k _. within_more 8192 32768 _ (rounded_small 8192 _ ((column_within d (k % 4) e).each (k / 4))) tt)

-- ---- residuals come from the first sixteen numbers alone
pub four_same : (f g : ℕ → ℤ) → ((n : ℕ) → n < 4 → f n ≡ g n) → first_step f ≡ first_step g
unfolding first_step
four_same f g h = rw (h 0 (lit< tt), h 1 (lit< tt), h 2 (lit< tt), h 3 (lit< tt))

module _ (d d' : List ℤ) (same : (k : ℕ) → k < 16 → at d k ≡ at d' k) where
  pub e_same : (i : ℕ) → i < 4 → e_row d i ≡ e_row d' i
  unfolding e_row
  e_same i h = four_same (λ j. at d (4 * i + j)) (λ j. at d' (4 * i + j)) (λ j l. same (4 * i + j) (omega arith))

  pub f_same : (i : ℕ) → i < 4 → f_row d i ≡ f_row d' i
  unfolding f_row
  f_same i h = ap (λ e. second_step (at e)) (e_same i h)

  pub g_same : (j : ℕ) → g_column d j ≡ g_column d' j
  unfolding g_column
  g_same j = four_same (λ i. at (f_row d i) j) (λ i. at (f_row d' i) j) (λ i l. ap (λ f. at f j) (f_same i l))

  pub h_same : (j : ℕ) → h_column d j ≡ h_column d' j
  unfolding h_column
  h_same j = ap (λ g. second_step (at g)) (g_same j)

-- so the residuals of a list are those of its blocks
pub of_block : OfBlock 16 inverse4x4
unfolding inverse4x4
of_block = record {
  long = λ d. length_table (pos 0) 16 (λ k. rounded (at (h_column d (k % 4)) (k / 4)));
  same = λ d d' e. table_same 16 _ _ (λ k h. ap (λ l. rounded (at l (k / 4))) (h_same d d' e (k % 4)));
}
