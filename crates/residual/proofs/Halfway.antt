-- The range of a 4x4 block: what is tested of it tells of every value that the clause names, and each of them then has sixteen bits. Assumes nothing.
use mathlib.Core.Path.{◌≡◌, ap, ap₂}
use mathlib.Core.Bool.{Bool, true, ◌&&◌}
use mathlib.Core.List.{List}
use Prim.Native.Nat.{ℕ, zero, suc, ◌/◌, ◌%◌, ◌<◌}
use native.Mathlib.Omega.{arith}
use lib.Dec.{lit<}
use lib.IntN.{ℤ}
use lib.ListN.{length}
use Rattle.laws.specs.Range.{at}
use Rattle.laws.specs.Table.{all_below}
use Rattle.laws.proofs.Blockwise.{TestOfBlock}
use Rattle.laws.proofs.Ints.{within_table}
use Rattle.laws.proofs.Tests.{and_left, and_right, and_both, and_of, all_at, all_of_lem, all_same}
use Rattle.numbers.specs.Numbers.{in_range, all_in_range, last_in_range}
use Rattle.numbers.proofs.InRange.{in_range_within, in_range_short, halves, last_in_range_lem, last_rounds}
use Rattle.numbers.proofs.InRange as numbers
use Rattle.residual.specs.Fits4x4.{Fits4x4}
use Rattle.residual.specs.Inverse.{second_step, e_row, f_row, g_column, h_column, inverse4x4, in_range4x4}
use Rattle.residual.specs.inner.Laws.{of_16}
use Rattle.residual.proofs.Transform.{rounded_small, e_same, f_same, g_same, h_same}

-- ---- the values of the second step tell of those of the first
step_told : (e : ℕ → ℤ) → ((n : ℕ) → n < 4 → in_range (at (second_step e) n) ≡ true) → (n : ℕ) → n < 4 → in_range (e n) ≡ true
unfolding second_step
step_told e w zero h = (halves (e 0) (e 3) (w 0 (lit< tt)) (w 3 (lit< tt))).0
step_told e w (suc zero) h = (halves (e 1) (e 2) (w 1 (lit< tt)) (w 2 (lit< tt))).0
step_told e w (suc (suc zero)) h = (halves (e 1) (e 2) (w 1 (lit< tt)) (w 2 (lit< tt))).1
step_told e w (suc (suc (suc zero))) h = (halves (e 0) (e 3) (w 0 (lit< tt)) (w 3 (lit< tt))).1
step_told e w (suc (suc (suc (suc n)))) h = absurd (omega arith)

module _ (d : List ℤ) where
  -- what the range says, value by value
  pub record InRange : Type 0 where
    pub d_in : (k : ℕ) → k < 16 → in_range (at d k) ≡ true
    pub e_in : (i j : ℕ) → i < 4 → j < 4 → in_range (at (e_row d i) j) ≡ true
    pub f_in : (i j : ℕ) → i < 4 → j < 4 → in_range (at (f_row d i) j) ≡ true
    pub g_in_lem : (i j : ℕ) → i < 4 → j < 4 → in_range (at (g_column d j) i) ≡ true
    pub h_in_lem : (i j : ℕ) → i < 4 → j < 4 → last_in_range (at (h_column d j) i) ≡ true

  abbrev coefficients : Bool
  coefficients = all_below 16 (λ k. in_range (at d k))

  abbrev in_rows : Bool
  in_rows = all_below 4 (λ i. all_below 4 (λ j. in_range (at (e_row d i) j) && in_range (at (f_row d i) j)))

  abbrev in_columns : Bool
  in_columns = all_below 4 (λ j. all_below 4 (λ i. in_range (at (g_column d j) i) && last_in_range (at (h_column d j) i)))

  in_row : in_rows ≡ true → (i j : ℕ) → i < 4 → j < 4 → (in_range (at (e_row d i) j) ≡ true) × (in_range (at (f_row d i) j) ≡ true)
  in_row r i j hi hj = and_both (in_range (at (e_row d i) j)) (in_range (at (f_row d i) j)) (all_at 4 _ (all_at 4 _ r i hi) j hj)

  in_column_lem : in_columns ≡ true → (i j : ℕ) → i < 4 → j < 4 → (in_range (at (g_column d j) i) ≡ true) × (last_in_range (at (h_column d j) i) ≡ true)
  in_column_lem c i j hi hj = and_both (in_range (at (g_column d j) i)) (last_in_range (at (h_column d j) i)) (all_at 4 _ (all_at 4 _ c j hj) i hi)

  pub says : in_range4x4 d ≡ true → InRange
  unfolding in_range4x4
  says e =
      let cr = and_left (coefficients && in_rows) in_columns e in
      let r = and_right coefficients in_rows cr in
      let c = and_right (coefficients && in_rows) in_columns e in
      record {
        d_in = all_at 16 _ (and_left coefficients in_rows cr);
        e_in = λ i j hi hj. (in_row r i j hi hj).0;
        f_in = λ i j hi hj. (in_row r i j hi hj).1;
        g_in_lem = λ i j hi hj. (in_column_lem c i j hi hj).0;
        h_in_lem = λ i j hi hj. (in_column_lem c i j hi hj).1;
      }

  -- the other way
  pub said : InRange → in_range4x4 d ≡ true
  unfolding in_range4x4
  said s =
      and_of (and_of (all_of_lem 16 _ s.d_in) (all_of_lem 4 _ (λ i hi. all_of_lem 4 _ (λ j hj. and_of (s.e_in i j hi hj) (s.f_in i j hi hj)))))
      (all_of_lem 4 _ (λ j hj. all_of_lem 4 _ (λ i hi. and_of (s.g_in_lem i j hi hj) (s.h_in_lem i j hi hj))))

  -- of coefficients in range, the values after each pass tell all
  module _ (ok : all_in_range d ≡ true) (f : (i j : ℕ) → i < 4 → j < 4 → in_range (at (f_row d i) j) ≡ true)
      (h : (i j : ℕ) → i < 4 → j < 4 → last_in_range (at (h_column d j) i) ≡ true) where
    e_told : (i j : ℕ) → i < 4 → j < 4 → in_range (at (e_row d i) j) ≡ true
    unfolding f_row
    e_told i j hi hj = step_told (at (e_row d i)) (λ n b. f i n hi b) j hj

    g_told : (i j : ℕ) → i < 4 → j < 4 → in_range (at (g_column d j) i) ≡ true
    unfolding h_column
    g_told i j hi hj = step_told (at (g_column d j)) (λ n b. last_in_range_lem _ (h n j b hj)) i hi

    pub told : in_range4x4 d ≡ true
    told = said (record { d_in = λ k _. numbers.all_at d k ok; e_in = e_told; f_in = f; g_in_lem = g_told; h_in_lem = h })

  -- a block in range has its numbers in range
  pub in_numbers : length d ≡ 16 → in_range4x4 d ≡ true → all_in_range d ≡ true
  in_numbers n e = of_16.numbers d n e

  -- ---- sixteen bits
  pub fits_4x4 : in_range4x4 d ≡ true → Fits4x4 d
  unfolding inverse4x4
  fits_4x4 e =
      let s = says e in
      record {
        coefficients = λ k h. in_range_short _ (s.d_in k h);
        e = λ i j hi hj. in_range_short _ (s.e_in i j hi hj);
        f = λ i j hi hj. in_range_short _ (s.f_in i j hi hj);
        g = λ i j hi hj. in_range_short _ (s.g_in_lem i j hi hj);
        h = λ i j hi hj. in_range_short _ (last_in_range_lem _ (s.h_in_lem i j hi hj));
        h_32 = λ i j hi hj. in_range_short _ (last_rounds _ (s.h_in_lem i j hi hj));
        r = within_table 512 16 _ (λ k h. rounded_small 512 _ (in_range_within _ (last_in_range_lem _ (s.h_in_lem (k / 4) (k % 4) (omega arith) (omega arith)))));
      }

-- ---- the range comes from the first sixteen numbers alone
pub range_of_block : TestOfBlock 16 in_range4x4
unfolding in_range4x4
range_of_block = record {
  same = λ d d' e. ap₂ ◌&&◌ (ap₂ ◌&&◌ (all_same 16 _ _ (λ k h. ap in_range (e k h)))
      (all_same 4 _ _ (λ i hi. all_same 4 _ _ (λ j hj. ap₂ (λ a b. in_range (at a j) && in_range (at b j)) (e_same d d' e i hi) (f_same d d' e i hi)))))
      (all_same 4 _ _ (λ j hj. all_same 4 _ _ (λ i hi. ap₂ (λ a b. in_range (at a i) && last_in_range (at b i)) (g_same d d' e j) (h_same d d' e j))));
}
