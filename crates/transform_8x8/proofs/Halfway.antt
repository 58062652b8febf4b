-- The range of an 8x8 block: what is tested of it tells of every value that the clause names, and each of them then has sixteen bits. Assumes nothing.
use mathlib.Core.Path.{◌≡◌, ap, ap₂, ◌∙◌}
use mathlib.Core.Bool.{Bool, true, ◌&&◌}
use mathlib.Core.List.{List}
use Prim.Native.Nat.{ℕ, zero, suc, ◌/◌, ◌%◌, ◌<◌}
use native.Mathlib.Omega.{arith}
use lib.Dec.{lit<}
use lib.IntN.{ℤ}
use lib.ListN.{length}
use Rattle.laws.specs.Range.{at}
use Rattle.laws.specs.Table.{table, all_below}
use Rattle.laws.proofs.Blockwise.{TestOfBlock}
use Rattle.laws.proofs.Ints.{within_table}
use Rattle.laws.proofs.Tests.{true_t, T_true, same_test, and_left, and_right, and_of, all_at, all_of_lem, all_same}
use Rattle.numbers.specs.Numbers.{in_range, all_in_range, all_of, last_in_range}
use Rattle.numbers.proofs.InRange.{in_range_within, in_range_short, halves, last_in_range_lem, last_rounds}
use Rattle.numbers.proofs.InRange as numbers
use Rattle.transform_8x8.specs.inner.Laws.{of_64}
use Rattle.residual.proofs.Transform.{rounded_small}
use Rattle.transform_8x8.specs.Fits8x8.{Fits8x8}
use Rattle.transform_8x8.specs.Inverse8x8.{second_step, third_step, e_row, f_row, g_row, h_column, k_column, m_column, inverse8x8, in_range8x8}
use Rattle.transform_8x8.specs.inner.ByColumn.{row_at}
use Rattle.transform_8x8.specs.inner.Told.{odd_of, all_of_eight, row_told, column_told}
use Rattle.transform_8x8.proofs.Columns.{e_same, f_same, g_same, h_same, k_same, m_same, row_in, h_is, m_is}

-- ---- the values of the third step tell of those of the second, and these of the even ones of the first
abbrev InRange8 : (ℕ → ℤ) → Type 0
InRange8 e = (n : ℕ) → n < 8 → in_range (e n) ≡ true

third_told : (f : ℕ → ℤ) → InRange8 (at (third_step f)) → InRange8 f
unfolding third_step
third_told f w zero h = (halves (f 0) (f 7) (w 0 (lit< tt)) (w 7 (lit< tt))).0
third_told f w (suc zero) h = (halves (f 6) (f 1) (w 3 (lit< tt)) (w 4 (lit< tt))).1
third_told f w (suc (suc zero)) h = (halves (f 2) (f 5) (w 1 (lit< tt)) (w 6 (lit< tt))).0
third_told f w (suc (suc (suc zero))) h = (halves (f 4) (f 3) (w 2 (lit< tt)) (w 5 (lit< tt))).1
third_told f w (suc (suc (suc (suc zero)))) h = (halves (f 4) (f 3) (w 2 (lit< tt)) (w 5 (lit< tt))).0
third_told f w (suc (suc (suc (suc (suc zero))))) h = (halves (f 2) (f 5) (w 1 (lit< tt)) (w 6 (lit< tt))).1
third_told f w (suc (suc (suc (suc (suc (suc zero)))))) h = (halves (f 6) (f 1) (w 3 (lit< tt)) (w 4 (lit< tt))).0
third_told f w (suc (suc (suc (suc (suc (suc (suc zero))))))) h = (halves (f 0) (f 7) (w 0 (lit< tt)) (w 7 (lit< tt))).1
third_told f w (suc (suc (suc (suc (suc (suc (suc (suc n)))))))) h = absurd (omega arith)

second_told : (e : List ℤ) → InRange8 (at (second_step (at e))) → all_of in_range (odd_of e) ≡ true → InRange8 (at e)
unfolding second_step
second_told e w o zero h = (halves (at e 0) (at e 6) (w 0 (lit< tt)) (w 6 (lit< tt))).0
second_told e w o (suc zero) h = all_at 4 _ o 0 (lit< tt)
second_told e w o (suc (suc zero)) h = (halves (at e 2) (at e 4) (w 2 (lit< tt)) (w 4 (lit< tt))).0
second_told e w o (suc (suc (suc zero))) h = all_at 4 _ o 1 (lit< tt)
second_told e w o (suc (suc (suc (suc zero)))) h = (halves (at e 2) (at e 4) (w 2 (lit< tt)) (w 4 (lit< tt))).1
second_told e w o (suc (suc (suc (suc (suc zero))))) h = all_at 4 _ o 2 (lit< tt)
second_told e w o (suc (suc (suc (suc (suc (suc zero)))))) h = (halves (at e 0) (at e 6) (w 0 (lit< tt)) (w 6 (lit< tt))).1
second_told e w o (suc (suc (suc (suc (suc (suc (suc zero))))))) h = all_at 4 _ o 3 (lit< tt)
second_told e w o (suc (suc (suc (suc (suc (suc (suc (suc n)))))))) h = absurd (omega arith)

-- the odd places are among the eight
odd_of_lem : (e : List ℤ) → InRange8 (at e) → all_of in_range (odd_of e) ≡ true
odd_of_lem e w = all_of_lem 4 _ places
  where
    places : (k : ℕ) → k < 4 → in_range (at (odd_of e) k) ≡ true
    places zero h = w 1 (lit< tt)
    places (suc zero) h = w 3 (lit< tt)
    places (suc (suc zero)) h = w 5 (lit< tt)
    places (suc (suc (suc zero))) h = w 7 (lit< tt)
    places (suc (suc (suc (suc n)))) h = absurd (omega arith)

module _ (d : List ℤ) where
  -- what is tested of column j of the transformed rows
  abbrev g_in : ℕ → Bool
  g_in j = all_below 8 (λ i. in_range (at (g_row d i) j))

  abbrev h_in : ℕ → Bool
  h_in j = all_of in_range (odd_of (h_column d j))

  abbrev m_in : ℕ → Bool
  m_in j = all_of_eight last_in_range (m_column d j)

  abbrev pub column_tested : ℕ → Bool
  column_tested j = g_in j && h_in j && m_in j

  column_tested_lem : (j : ℕ) → j < 8 → column_told (table 64 (row_at d)) j ≡ column_tested j
  column_tested_lem j h =
      ap₂ ◌&&◌ (ap₂ ◌&&◌ (all_same 8 _ _ (λ i hi. ap in_range (row_in d i j hi h))) (ap (λ a. all_of in_range (odd_of a)) (h_is d j h))) (ap (all_of_eight last_in_range) (m_is d j h))

  abbrev rows : Bool
  rows = all_below 8 (row_told d)

  abbrev columns : Bool
  columns = all_below 8 column_tested

  -- what the range says, value by value
  pub record InRange : Type 0 where
    pub d_in : (k : ℕ) → k < 64 → in_range (at d k) ≡ true
    pub e_in : (i : ℕ) → i < 8 → InRange8 (at (e_row d i))
    pub f_in : (i : ℕ) → i < 8 → InRange8 (at (f_row d i))
    pub g_in_lem : (i : ℕ) → i < 8 → InRange8 (at (g_row d i))
    pub h_in_lem : (j : ℕ) → j < 8 → InRange8 (at (h_column d j))
    pub k_in : (j : ℕ) → j < 8 → InRange8 (at (k_column d j))
    pub m_in_lem : (j : ℕ) → j < 8 → (i : ℕ) → i < 8 → last_in_range (at (m_column d j) i) ≡ true

  module _ (ok : all_in_range d ≡ true) (r : rows ≡ true) (c : columns ≡ true) where
    row : (i : ℕ) → i < 8 → row_told d i ≡ true
    row = all_at 8 _ r

    column : (j : ℕ) → j < 8 → column_tested j ≡ true
    column = all_at 8 _ c

    g_told : (i : ℕ) → i < 8 → InRange8 (at (g_row d i))
    g_told i h j l = all_at 8 _ (and_left (g_in j) (h_in j) (and_left (g_in j && h_in j) (m_in j) (column j l))) i h

    f_told : (i : ℕ) → i < 8 → InRange8 (at (f_row d i))
    unfolding g_row
    f_told i h = third_told (at (f_row d i)) (g_told i h)

    e_told : (i : ℕ) → i < 8 → InRange8 (at (e_row d i))
    unfolding f_row
    e_told i h = second_told (e_row d i) (f_told i h) (row i h)

    m_told : (j : ℕ) → j < 8 → (i : ℕ) → i < 8 → last_in_range (at (m_column d j) i) ≡ true
    m_told j h = all_at 8 _ (and_right (g_in j && h_in j) (m_in j) (column j h))

    k_told : (j : ℕ) → j < 8 → InRange8 (at (k_column d j))
    unfolding m_column
    k_told j h = third_told (at (k_column d j)) (λ i l. last_in_range_lem _ (m_told j h i l))

    h_told : (j : ℕ) → j < 8 → InRange8 (at (h_column d j))
    unfolding k_column
    h_told j h = second_told (h_column d j) (k_told j h) (and_right (g_in j) (h_in j) (and_left (g_in j && h_in j) (m_in j) (column j h)))

    pub all_told : InRange
    all_told = record { d_in = λ k _. numbers.all_at d k ok; e_in = e_told; f_in = f_told; g_in_lem = g_told; h_in_lem = h_told; k_in = k_told; m_in_lem = m_told }

  abbrev coefficients : Bool
  coefficients = all_below 64 (λ k. in_range (at d k))

  abbrev in_row : ℕ → ℕ → Bool
  in_row i j = in_range (at (e_row d i) j) && in_range (at (f_row d i) j) && in_range (at (g_row d i) j)

  abbrev in_column : ℕ → ℕ → Bool
  in_column j i = in_range (at (h_column d j) i) && in_range (at (k_column d j) i) && last_in_range (at (m_column d j) i)

  abbrev in_rows : Bool
  in_rows = all_below 8 (λ i. all_below 8 (in_row i))

  abbrev in_columns : Bool
  in_columns = all_below 8 (λ j. all_below 8 (in_column j))

  pub says : in_range8x8 d ≡ true → InRange
  unfolding in_range8x8
  says t =
      let cr = and_left (coefficients && in_rows) in_columns t in
      let r = and_right coefficients in_rows cr in
      let c = and_right (coefficients && in_rows) in_columns t in
      let at_row : (i j : ℕ) → i < 8 → j < 8 → in_row i j ≡ true = λ i j hi hj. all_at 8 _ (all_at 8 _ r i hi) j hj in
      let at_column : (j i : ℕ) → j < 8 → i < 8 → in_column j i ≡ true = λ j i hj hi. all_at 8 _ (all_at 8 _ c j hj) i hi in
      let e : (i j : ℕ) → Bool = λ i j. in_range (at (e_row d i) j) in
      let f : (i j : ℕ) → Bool = λ i j. in_range (at (f_row d i) j) in
      let h : (j i : ℕ) → Bool = λ j i. in_range (at (h_column d j) i) in
      let k : (j i : ℕ) → Bool = λ j i. in_range (at (k_column d j) i) in
      record {
        d_in = all_at 64 _ (and_left coefficients in_rows cr);
        e_in = λ i hi j hj. and_left (e i j) (f i j) (and_left (e i j && f i j) (in_range (at (g_row d i) j)) (at_row i j hi hj));
        f_in = λ i hi j hj. and_right (e i j) (f i j) (and_left (e i j && f i j) (in_range (at (g_row d i) j)) (at_row i j hi hj));
        g_in_lem = λ i hi j hj. and_right (e i j && f i j) (in_range (at (g_row d i) j)) (at_row i j hi hj);
        h_in_lem = λ j hj i hi. and_left (h j i) (k j i) (and_left (h j i && k j i) (last_in_range (at (m_column d j) i)) (at_column j i hj hi));
        k_in = λ j hj i hi. and_right (h j i) (k j i) (and_left (h j i && k j i) (last_in_range (at (m_column d j) i)) (at_column j i hj hi));
        m_in_lem = λ j hj i hi. and_right (h j i && k j i) (last_in_range (at (m_column d j) i)) (at_column j i hj hi);
      }

  -- the other way
  pub said : InRange → in_range8x8 d ≡ true
  unfolding in_range8x8
  said s =
      and_of (and_of (all_of_lem 64 _ s.d_in) (all_of_lem 8 _ (λ i hi. all_of_lem 8 _ (λ j hj. and_of (and_of (s.e_in i hi j hj) (s.f_in i hi j hj)) (s.g_in_lem i hi j hj)))))
      (all_of_lem 8 _ (λ j hj. all_of_lem 8 _ (λ i hi. and_of (and_of (s.h_in_lem j hj i hi) (s.k_in j hj i hi)) (s.m_in_lem j hj i hi))))

  -- of coefficients in range, what is tested tells all
  pub told : all_in_range d ≡ true → rows && all_below 8 (column_told (table 64 (row_at d))) ≡ in_range8x8 d
  told ok =
      ap (λ t. rows && t) (all_same 8 _ _ column_tested_lem)
      ∙ same_test (rows && columns) (in_range8x8 d)
      (λ t.
      let e = T_true (rows && columns) t in
      true_t (in_range8x8 d) (said (all_told ok (and_left rows columns e) (and_right rows columns e))))
      (λ t.
      let s = says (T_true (in_range8x8 d) t) in
      true_t (rows && columns)
      (and_of (all_of_lem 8 _ (λ i h. odd_of_lem (e_row d i) (s.e_in i h)))
      (all_of_lem 8 _ (λ j h. and_of (and_of (all_of_lem 8 _ (λ i l. s.g_in_lem i l j h)) (odd_of_lem (h_column d j) (s.h_in_lem j h))) (all_of_lem 8 _ (s.m_in_lem j h))))))

  -- a block in range has its numbers in range
  pub in_numbers : length d ≡ 64 → in_range8x8 d ≡ true → all_in_range d ≡ true
  in_numbers n e = of_64.numbers d n e

  -- ---- sixteen bits
  pub fits_8x8 : in_range8x8 d ≡ true → Fits8x8 d
  unfolding inverse8x8
  fits_8x8 t =
      let s = says t in
      record {
        coefficients = λ n h. in_range_short _ (s.d_in n h);
        e = λ i j hi hj. in_range_short _ (s.e_in i hi j hj);
        f = λ i j hi hj. in_range_short _ (s.f_in i hi j hj);
        g = λ i j hi hj. in_range_short _ (s.g_in_lem i hi j hj);
        h = λ i j hi hj. in_range_short _ (s.h_in_lem j hj i hi);
        k = λ i j hi hj. in_range_short _ (s.k_in j hj i hi);
        m = λ i j hi hj. in_range_short _ (last_in_range_lem _ (s.m_in_lem j hj i hi));
        m_32 = λ i j hi hj. in_range_short _ (last_rounds _ (s.m_in_lem j hj i hi));
        r = within_table 512 64 _ (λ n h. rounded_small 512 _ (in_range_within _ (last_in_range_lem _ (s.m_in_lem (n % 8) (omega arith) (n / 8) (omega arith)))));
      }

-- ---- the range comes from the first 64 numbers alone
pub range_of_block : TestOfBlock 64 in_range8x8
unfolding in_range8x8
range_of_block = record { same = same }
  where
    same : (d d' : List ℤ) → ((k : ℕ) → k < 64 → at d k ≡ at d' k) → in_range8x8 d ≡ in_range8x8 d'
    same d d' s =
        ap₂ ◌&&◌ (ap₂ ◌&&◌ (all_same 64 _ _ (λ k h. ap in_range (s k h)))
        (all_same 8 _ _ (λ i hi. all_same 8 _ _ (λ j hj. ap₂ ◌&&◌ (ap₂ (λ a b. in_range (at a j) && in_range (at b j)) (e_same d d' s i hi) (f_same d d' s i hi)) (ap (λ a. in_range (at a j)) (g_same d d' s i hi))))))
        (all_same 8 _ _ (λ j hj. all_same 8 _ _ (λ i hi. ap₂ ◌&&◌ (ap₂ (λ a b. in_range (at a i) && in_range (at b i)) (h_same d d' s j) (k_same d d' s j)) (ap (λ a. last_in_range (at a i)) (m_same d d' s j)))))
