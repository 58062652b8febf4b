-- A block of side 8 that is put column by column, and put. Assumes nothing.
use mathlib.Core.Path.{◌≡◌, refl, sym, ap, ap₂, ◌∙◌, subst}
use mathlib.Core.List.{List}
use Prim.Native.Nat.{ℕ, ◌+◌, ◌*◌, ◌-◌, ◌/◌, ◌%◌, ◌<◌, ◌≤◌}
use native.Mathlib.Decide.{dec_lt, ℕ_discrete}
use native.Mathlib.Omega.{arith}
use lib.IntN.{ℤ, pos}
use lib.ListN.{length, set, drop, length-set}
use lib.Seq.{ext_get_or, get_or-set_same, get_or-set_other, get_or-append-add, get_or-drop}
use Rattle.laws.specs.Range.{at}
use Rattle.laws.specs.Table.{table, onto}
use Rattle.laws.proofs.Blockwise.{OfBlock}
use Rattle.laws.proofs.Ontos.{onto_at, onto_long}
use Rattle.laws.proofs.Tables.{length_table, get_d_table, table_same}
use Rattle.residual.specs.Inverse.{rounded}
use Rattle.transform_8x8.specs.Inverse8x8.{first_step, second_step, third_step, one_dimensional, e_row, f_row, g_row, h_column, k_column, m_column, inverse8x8}
use Rattle.transform_8x8.specs.inner.ByColumn.{ByColumn, row_at, column_at}
use Rattle.transform_8x8.proofs.Eights.{first_same}

module _ (f : ℕ → ℤ) (old : List ℤ) where
  pub by_none : ByColumn f old 0 old
  by_none = record { long = refl; put = λ i j a b h. absurd (omega arith); kept = λ k h. refl }

  pub by_at : {m n : ℕ} {l : List ℤ} → m ≡ n → ByColumn f old m l → ByColumn f old n l
  by_at {m} {n} {l} e b = subst (λ (k : ℕ). ByColumn f old k l) e b

  pub by_more : (i j : ℕ) {v : ℤ} {l : List ℤ} → i < 8 → j < 8 → 64 ≤ length l → v ≡ f (8 * i + j) → ByColumn f old (8 * j + i) l
      → ByColumn f old (8 * j + (i + 1)) (set l (8 * i + j) v)
  by_more i j {v} {l} hi hj room e b = record {
    long = length-set l (8 * i + j) v ∙ b.long;
    put = λ i' j' hi' hj' h. place i' j' hi' hj' h (ℕ_discrete (8 * i + j) (8 * i' + j'));
    kept = λ k h. get_or-set_other l (8 * i + j) k v (pos 0) (omega arith) ∙ b.kept k h;
  }
    where
      place : (i' j' : ℕ) → i' < 8 → j' < 8 → 8 * j' + i' < 8 * j + (i + 1) → Dec (8 * i + j ≡ 8 * i' + j')
          → at (set l (8 * i + j) v) (8 * i' + j') ≡ f (8 * i' + j')
      place i' j' hi' hj' h (yes p) =
          subst (λ (n : ℕ). at (set l (8 * i + j) v) n ≡ f n) p (get_or-set_same l (8 * i + j) v (pos 0) (omega arith) ∙ e)
      place i' j' hi' hj' h (no p) = get_or-set_other l (8 * i + j) (8 * i' + j') v (pos 0) (omega arith) ∙ b.put i' j' hi' hj' (omega arith)

  pub by_all : {l : List ℤ} → 64 ≤ length old → ByColumn f old 64 l → l ≡ onto 64 f old
  by_all {l} room b = ext_get_or (pos 0) l (onto 64 f old) (b.long ∙ sym (onto_long 64 f old (onto 64 f old) room refl)) (λ k h. place k (dec_lt k 64))
    where
      head : length (table 64 f) ≡ 64
      head = length_table (pos 0) 64 f

      place : (k : ℕ) → Dec (k < 64) → at l k ≡ at (onto 64 f old) k
      place k (yes h) =
          let n : 8 * (k / 8) + k % 8 ≡ k = omega arith in
          subst (λ (m : ℕ). at l m ≡ f m) n (b.put (k / 8) (k % 8) (omega arith) (omega arith) (omega arith))
          ∙ sym (onto_at 64 f old (onto 64 f old) (pos 0) k refl h)
      place k (no h) =
          let n : length (table 64 f) + (k - 64) ≡ k = omega (arith, head) in
          let m : 64 + (k - 64) ≡ k = omega arith in
          b.kept k (omega arith)
          ∙ sym (ap (at (onto 64 f old)) (sym n) ∙ get_or-append-add (table 64 f) (drop 64 old) (k - 64) (pos 0) ∙ get_or-drop 64 old (k - 64) (pos 0) ∙ ap (at old) m)

-- ---- place k of the residuals, by its column, and as the columns of the transformed rows give it
abbrev pub residual_at : List ℤ → ℕ → ℤ
residual_at d k = rounded (at (m_column d (k % 8)) (k / 8))

-- column j of the transformed rows
pub row_in : (d : List ℤ) (i j : ℕ) → i < 8 → j < 8 → at (table 64 (row_at d)) (8 * i + j) ≡ at (g_row d i) j
row_in d i j hi hj =
    let r : (8 * i + j) / 8 ≡ i = omega arith in
    let c : (8 * i + j) % 8 ≡ j = omega arith in
    get_d_table (pos 0) 64 (row_at d) (8 * i + j) (omega arith) ∙ ap₂ (λ (x y : ℕ). at (g_row d x) y) r c

pub h_is : (d : List ℤ) (j : ℕ) → j < 8 → first_step (λ i. at (table 64 (row_at d)) (8 * i + j)) ≡ h_column d j
unfolding h_column
h_is d j h = first_same (λ i. at (table 64 (row_at d)) (8 * i + j)) (λ i. at (g_row d i) j) (λ i hi. row_in d i j hi h)

pub m_is : (d : List ℤ) (j : ℕ) → j < 8 → one_dimensional (λ i. at (table 64 (row_at d)) (8 * i + j)) ≡ m_column d j
unfolding k_column m_column
m_is d j h = ap (λ e. third_step (at (second_step (at e)))) (h_is d j h)

pub columns_are : (d : List ℤ) (k : ℕ) → k < 64 → column_at (table 64 (row_at d)) k ≡ residual_at d k
columns_are d k h = ap (λ l. rounded (at l (k / 8))) (m_is d (k % 8) (omega arith))

-- ---- every value comes from the first 64 numbers alone
module _ (d d' : List ℤ) (same : (k : ℕ) → k < 64 → at d k ≡ at d' k) where
  pub e_same : (i : ℕ) → i < 8 → e_row d i ≡ e_row d' i
  unfolding e_row
  e_same i h = first_same (λ j. at d (8 * i + j)) (λ j. at d' (8 * i + j)) (λ j l. same (8 * i + j) (omega arith))

  pub f_same : (i : ℕ) → i < 8 → f_row d i ≡ f_row d' i
  unfolding f_row
  f_same i h = ap (λ e. second_step (at e)) (e_same i h)

  pub g_same : (i : ℕ) → i < 8 → g_row d i ≡ g_row d' i
  unfolding g_row
  g_same i h = ap (λ f. third_step (at f)) (f_same i h)

  pub h_same : (j : ℕ) → h_column d j ≡ h_column d' j
  unfolding h_column
  h_same j = first_same (λ i. at (g_row d i) j) (λ i. at (g_row d' i) j) (λ i l. ap (λ g. at g j) (g_same i l))

  pub k_same : (j : ℕ) → k_column d j ≡ k_column d' j
  unfolding k_column
  k_same j = ap (λ h. second_step (at h)) (h_same j)

  pub m_same : (j : ℕ) → m_column d j ≡ m_column d' j
  unfolding m_column
  m_same j = ap (λ k. third_step (at k)) (k_same j)

-- so the residuals of a list are those of its blocks
pub of_block : OfBlock 64 inverse8x8
unfolding inverse8x8
of_block = record {
  long = λ d. length_table (pos 0) 64 (residual_at d);
  same = λ d d' e. table_same 64 (residual_at d) (residual_at d') (λ k h. ap (λ l. rounded (at l (k / 8))) (m_same d d' e (k % 8)));
}
