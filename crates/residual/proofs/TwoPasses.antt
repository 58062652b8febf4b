-- The two passes: what stands at each place after them, and what these values tell of a block. Assumes nothing.
use mathlib.Core.Path.{◌≡◌, sym, ap, ap₂, ◌∙◌}
use mathlib.Core.Bool.{true, ◌&&◌}
use mathlib.Core.List.{List}
use Prim.Native.Nat.{ℕ, ◌+◌, ◌*◌, ◌/◌, ◌%◌, ◌<◌}
use native.Mathlib.Omega.{arith}
use lib.IntN.{ℤ, pos}
use lib.ListN.{length}
use Rattle.laws.specs.Range.{AllWithin, at}
use Rattle.laws.specs.Table.{table, blockwise, all_below}
use Rattle.laws.proofs.Blockwise.{OfBlock, itself, blockwise_at}
use Rattle.laws.proofs.Ints.{within_more, within_table}
use Rattle.laws.proofs.Tables.{length_table, get_d_table, table_same}
use Rattle.laws.proofs.Tests.{true_t, T_true, same_test, and_left, and_right, and_of, all_at, all_of_lem, all_same, all_both, all_groups}
use Rattle.numbers.specs.Numbers.{in_range, all_in_range, all_of, is_small, last_in_range}
use Rattle.numbers.proofs.InRange.{within_in_range, within_last, in_range_all, all_true}
use Rattle.numbers.proofs.InRange as numbers
use Rattle.numbers.proofs.Far.{near_within}
use Rattle.residual.specs.Inverse.{second_step, one_dimensional, rounded, e_row, f_row, g_column, h_column, inverse4x4, in_range4x4}
use Rattle.residual.specs.inner.Passes.{row_at, columns_of}
use Rattle.residual.specs.inner.Quads.{quad_inverse, quad_in_range}
use Rattle.residual.proofs.Halfway.{says, told, range_of_block}
use Rattle.residual.proofs.Quads.{quad_block, inverse_at, range_is}
use Rattle.residual.proofs.Transform.{seven_within, one_within, row_within, four_same, of_block}

-- number j of row i is in raster order number 4i + j
pub in_row : (d : List ℤ) (i j : ℕ) → j < 4 → at (f_row d i) j ≡ row_at d (4 * i + j)
in_row d i j h =
    let r : (4 * i + j) / 4 ≡ i = omega arith in
    let c : (4 * i + j) % 4 ≡ j = omega arith in
    sym (ap₂ (λ (x y : ℕ). at (f_row d x) y) r c)

-- number i of column j likewise
pub in_column_lem : (f : List ℤ) (i j : ℕ) → i < 4 → j < 4 → at (one_dimensional (λ i. at f (4 * i + j))) i ≡ at (columns_of f) (4 * i + j)
unfolding columns_of
in_column_lem f i j hi hj =
    let r : (4 * i + j) / 4 ≡ i = omega arith in
    let c : (4 * i + j) % 4 ≡ j = omega arith in
    sym (get_d_table (pos 0) 16 (λ k. at (one_dimensional (λ i. at f (4 * i + k % 4))) (k / 4)) (4 * i + j) (omega arith)
    ∙ ap₂ (λ (x y : ℕ). at (one_dimensional (λ i. at f (4 * i + y))) x) r c)

-- the columns come from the first sixteen numbers alone, and are bounded where these are
pub one_same : (f g : ℕ → ℤ) → ((n : ℕ) → n < 4 → f n ≡ g n) → one_dimensional f ≡ one_dimensional g
one_same f g h = ap (λ e. second_step (at e)) (four_same f g h)

pub of_columns : OfBlock 16 columns_of
unfolding columns_of
of_columns = record {
  long = λ f. length_table (pos 0) 16 _;
  same = λ f f' e. table_same 16 _ _ (λ k h. ap (λ l. at l (k / 4)) (one_same _ _ (λ i g. e (4 * i + k % 4) (omega arith))));
}

pub columns_within : (f : List ℤ) → AllWithin 131072 f → AllWithin 524288 (columns_of f)
unfolding columns_of
columns_within f w = within_table 524288 16 _ (λ k _. (one_within 131072 _ (λ i. w.each (4 * i + k % 4))).each (k / 4))

-- ---- a block d, and a list f that begins with its transformed rows
module _ (d f : List ℤ) (rows : (i j : ℕ) → i < 4 → j < 4 → at f (4 * i + j) ≡ at (f_row d i) j) where
  column_is : (j : ℕ) → j < 4 → one_dimensional (λ i. at f (4 * i + j)) ≡ h_column d j
  unfolding h_column g_column
  column_is j h = one_same _ _ (λ i g. rows i j g h)

  pub columns_are : (i j : ℕ) → i < 4 → j < 4 → at (columns_of f) (4 * i + j) ≡ at (h_column d j) i
  columns_are i j hi hj = sym (in_column_lem f i j hi hj) ∙ ap (λ l. at l i) (column_is j hj)

  -- the columns rounded are the residuals
  pub residual_is : (k : ℕ) → k < 16 → rounded (at (columns_of f) k) ≡ at (inverse4x4 d) k
  unfolding inverse4x4
  residual_is k h =
      let m : 4 * (k / 4) + k % 4 ≡ k = omega arith in
      ap (λ n. rounded (at (columns_of f) n)) (sym m)
      ∙ ap rounded (columns_are (k / 4) (k % 4) (omega arith) (omega arith))
      ∙ sym (get_d_table (pos 0) 16 (λ k. rounded (at (h_column d (k % 4)) (k / 4))) k h)

  -- what is looked at tells of the block
  pub block_told : all_in_range d ≡ true → all_below 16 (λ k. in_range (at f k)) && all_below 16 (λ k. last_in_range (at (columns_of f) k)) ≡ in_range4x4 d
  block_told ok =
      let p = all_below 16 (λ k. in_range (at f k)) in
      let q = all_below 16 (λ k. last_in_range (at (columns_of f) k)) in
      same_test (p && q) (in_range4x4 d)
      (λ t. let e = T_true (p && q) t in true_t (in_range4x4 d) (told d ok
      (λ i j hi hj. ap in_range (sym (rows i j hi hj)) ∙ all_at 16 _ (and_left p q e) (4 * i + j) (omega arith))
      (λ i j hi hj. ap last_in_range (sym (columns_are i j hi hj)) ∙ all_at 16 _ (and_right p q e) (4 * i + j) (omega arith))))
      (λ t. let s = says d (T_true (in_range4x4 d) t) in true_t (p && q) (and_of
      (all_of_lem 16 _ (λ k h. let m : 4 * (k / 4) + k % 4 ≡ k = omega arith in
      ap (λ n. in_range (at f n)) (sym m) ∙ ap in_range (rows (k / 4) (k % 4) (omega arith) (omega arith)) ∙ s.f_in (k / 4) (k % 4) (omega arith) (omega arith)))
      (all_of_lem 16 _ (λ k h. let m : 4 * (k / 4) + k % 4 ≡ k = omega arith in
      ap (λ n. last_in_range (at (columns_of f) n)) (sym m) ∙ ap last_in_range (columns_are (k / 4) (k % 4) (omega arith) (omega arith))
      ∙ s.h_in_lem (k / 4) (k % 4) (omega arith) (omega arith)))))

-- a block of small numbers is in range
pub small_block : (d : List ℤ) → AllWithin 2048 d → in_range4x4 d ≡ true
unfolding e_row f_row g_column h_column
small_block d w =
    let f : (i : ℕ) → AllWithin 7168 (f_row d i) = λ i. seven_within 1024 (λ j. at d (4 * i + j)) (λ j. w.each (4 * i + j)) in
    let h : (j : ℕ) → AllWithin 25088 (h_column d j) = λ j. seven_within 3584 (λ i. at (f_row d i) j) (λ i. (f i).each j) in
    told d (all_true d (λ k _. within_in_range _ (within_more 2048 32767 _ (w.each k) tt))) (λ i j _ _. within_in_range _ (within_more 7168 32767 _ ((f i).each j) tt))
    (λ i j _ _. within_last _ (within_more 25088 32735 _ ((h j).each i) tt))

-- ---- the transformed rows of a list of n numbers
module _ (d : List ℤ) (n : ℕ) where
  pub rows_within : all_in_range d ≡ true → AllWithin 131072 (table n (row_at d))
  rows_within e = within_table 131072 n (row_at d) (λ k _. (row_within d (k / 4) e).each (k % 4))

  -- those of block b are the transformed rows of its numbers
  pub rows_of : (b i j : ℕ) → 16 * b + 16 < n + 1 → i < 4 → j < 4
      → at (table n (row_at d)) (16 * b + (4 * i + j)) ≡ at (f_row (table 16 (λ k. at d (16 * b + k))) i) j
  unfolding e_row f_row
  rows_of b i j room hi hj =
      let m : 16 * b + (4 * i + j) ≡ 4 * (4 * b + i) + j = omega arith in
      get_d_table (pos 0) n (row_at d) (16 * b + (4 * i + j)) (omega arith)
      ∙ ap (row_at d) m ∙ sym (in_row d (4 * b + i) j hj)
      ∙ ap (λ l. at l j) (one_same _ _ (λ k h.
      let p : 4 * (4 * b + i) + k ≡ 16 * b + (4 * i + k) = omega arith in
      ap (at d) p ∙ sym (get_d_table (pos 0) 16 (λ k. at d (16 * b + k)) (4 * i + k) (omega arith))))

-- ---- the first 64 numbers of a list
module _ (d : List ℤ) where
  abbrev fs : List ℤ
  fs = table 64 (row_at d)

  abbrev hs : List ℤ
  hs = blockwise 16 columns_of fs

  -- block b of each
  abbrev block_in : List ℤ → ℕ → List ℤ
  block_in l b = table 16 (λ k. at l (16 * b + k))

  rows_in : (b : ℕ) → b < 4 → (i j : ℕ) → i < 4 → j < 4 → at (block_in fs b) (4 * i + j) ≡ at (f_row (block_in d b) i) j
  rows_in b h i j hi hj = get_d_table (pos 0) 16 (λ k. at fs (16 * b + k)) (4 * i + j) (omega arith) ∙ rows_of d 64 b i j (omega arith) hi hj

  columns_in : (b k : ℕ) → b < 4 → k < 16 → at hs (16 * b + k) ≡ at (columns_of (block_in fs b)) k
  columns_in b k hb hk = blockwise_at 16 b k columns_of fs hk (omega (arith, length_table (pos 0) 64 (row_at d)))

  pub quad_within : all_in_range d ≡ true → AllWithin 524288 hs
  quad_within ok =
      within_table 524288 (length fs) _ (λ k _.
      (columns_within _ (within_table 131072 16 _ (λ i _. (rows_within d 64 ok).each (k / 16 * 16 + i)))).each (k % 16))

  pub quad_is : table 64 (λ k. rounded (at hs k)) ≡ quad_inverse d
  quad_is =
      table_same 64 _ _ (λ k h.
      let m : 16 * (k / 16) + k % 16 ≡ k = omega arith in
      let p : 16 * (k / 16) ≡ k / 16 * 16 = omega arith in
      ap (λ n. rounded (at hs n)) (sym m) ∙ ap rounded (columns_in (k / 16) (k % 16) (omega arith) (omega arith))
      ∙ residual_is (block_in d (k / 16)) (block_in fs (k / 16)) (rows_in (k / 16) (omega arith)) (k % 16) (omega arith)
      ∙ ap (λ a. at (inverse4x4 (table 16 (λ i. at d (a + i)))) (k % 16)) p
      ∙ sym (inverse_at d k h))
      ∙ itself 64 quad_inverse quad_block d

  block_in_range : all_in_range d ≡ true → (b : ℕ) → all_in_range (block_in d b) ≡ true
  block_in_range ok b = all_true (block_in d b) (λ k h. ap in_range (get_d_table (pos 0) 16 (λ k. at d (16 * b + k)) k (omega (arith, length_table (pos 0) 16 (λ k. at d (16 * b + k))))) ∙ numbers.all_at d (16 * b + k) ok)

  pub quad_told : all_in_range d ≡ true → all_in_range fs && all_of last_in_range hs ≡ quad_in_range d
  quad_told ok =
      let long : length hs ≡ 64 = length_table (pos 0) (length fs) _ ∙ length_table (pos 0) 64 (row_at d) in
      ap₂ ◌&&◌
      (sym (in_range_all fs) ∙ ap (λ n. all_below n (λ k. in_range (at fs k))) (length_table (pos 0) 64 (row_at d)) ∙ sym (all_groups 16 4 (λ k. in_range (at fs k))))
      (ap (λ n. all_below n (λ k. last_in_range (at hs k))) long ∙ sym (all_groups 16 4 (λ k. last_in_range (at hs k))))
      ∙ all_both 4 _ _
      ∙ all_same 4 _ _ (λ b h.
      ap₂ ◌&&◌ (all_same 16 _ _ (λ k g. ap in_range (sym (get_d_table (pos 0) 16 (λ k. at fs (16 * b + k)) k g)))) (all_same 16 _ _ (λ k g. ap last_in_range (columns_in b k h g)))
      ∙ block_told (block_in d b) (block_in fs b) (rows_in b h) (block_in_range ok b))
      ∙ sym (range_is d)

  pub quad_small : all_below 64 (λ k. is_small (at d k)) ≡ true → quad_in_range d ≡ true
  quad_small e =
      range_is d
      ∙ all_of_lem 4 _ (λ b h. small_block (block_in d b) (within_table 2048 16 _ (λ k g. near_within _ (all_at 64 (λ k. is_small (at d k)) e (16 * b + k) (omega arith)))))

-- ---- a list of sixteen numbers
module _ (d : List ℤ) (long : length d ≡ 16) where
  alone : (i j : ℕ) → i < 4 → j < 4 → at (table 16 (row_at d)) (4 * i + j) ≡ at (f_row d i) j
  alone i j hi hj = get_d_table (pos 0) 16 (row_at d) (4 * i + j) (omega arith) ∙ sym (in_row d i j hj)

  pub one_is : table 16 (λ k. rounded (at (columns_of (table 16 (row_at d))) k)) ≡ inverse4x4 d
  one_is = table_same 16 _ _ (residual_is d (table 16 (row_at d)) alone) ∙ itself 16 inverse4x4 of_block d

  pub one_told : all_in_range d ≡ true → all_in_range (table 16 (row_at d)) && all_of last_in_range (columns_of (table 16 (row_at d))) ≡ in_range4x4 d
  one_told ok =
      ap₂ ◌&&◌
      (sym (in_range_all (table 16 (row_at d))) ∙ ap (λ n. all_below n (λ k. in_range (at (table 16 (row_at d)) k))) (length_table (pos 0) 16 (row_at d)))
      (ap (λ n. all_below n (λ k. last_in_range (at (columns_of (table 16 (row_at d))) k))) (of_columns.long (table 16 (row_at d))))
      ∙ block_told d (table 16 (row_at d)) alone ok

  pub one_small : all_of is_small d ≡ true → in_range4x4 d ≡ true
  one_small e =
      range_of_block.same d (table 16 (at d)) (λ k h. sym (get_d_table (pos 0) 16 (at d) k h))
      ∙ small_block (table 16 (at d)) (within_table 2048 16 _ (λ k h. near_within _ (all_at (length d) (λ k. is_small (at d k)) e k (omega (arith, long)))))
