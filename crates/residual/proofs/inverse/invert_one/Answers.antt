-- `residual::inverse::invert_one` meets its contract: one block is all of its list. Assumes nothing.
use mathlib.Core.Path.{◌≡◌, refl, sym, ap, ap₂, ◌∙◌, subst}
use mathlib.Core.Bool.{true, cond, ◌&&◌}
use mathlib.Core.List.{List, [], ◌++◌, append-nil}
use Prim.Native.Nat.{ℕ, ◌<◌, ◌^◌}
use native.Mathlib.Omega.{arith}
use borrow.Author.Tests.{lt-ltb, le-ltb}
use lib.Dec.{lit≤, ltb}
use lib.IntN.{ℤ, pos}
use lib.ListN.{length}
use Rattle.laws.specs.Range.{AllWithin, at}
use Rattle.laws.specs.Table.{table}
use Rattle.laws.proofs.Tables.{length_table}
use Rattle.laws.proofs.Tests.{not_both, no_from}
use Rattle.numbers.specs.Numbers.{all_in_range, all_of, last_in_range, near}
use Rattle.numbers.proofs.Far.{near_all}
use Rattle.residual.specs.Inverse.{rounded, inverse4x4, in_range4x4}
use Rattle.residual.specs.inner.Passes.{row_at, columns_of}
use Rattle.residual.proofs.Halfway.{in_numbers}
use Rattle.residual.proofs.TwoPasses.{of_columns, columns_within, rows_within, one_is, one_told, one_small}
use Rattle.residual.proofs.inverse.invert_one.Goals as goal
use Rattle.residual.proofs.inverse.invert_one.Goals.{else-reach-ge2048-via-then-reach-ge2048+else-not-values_in_range, else-reach-ge2048-via-else-reach-ge2048}

-- what the reach tells
abbrev Reach : ℕ → List ℤ → Type 0
Reach r d = (k : ℕ) → ltb r (2 ^ k) ≡ ltb 0 (2 ^ k) && all_of (near k) d

tested : (r : ℕ) (d : List ℤ) → Reach r d → ltb r 32768 ≡ all_in_range d
tested r d e = e 15 ∙ near_all d

passed : (r : ℕ) (d : List ℤ) → Reach r d → r < 32768 → all_in_range d ≡ true
passed r d e h = sym (tested r d e) ∙ lt-ltb r 32768 h

-- the transformed columns, the residuals, and what is told of the values after each pass
module _ (d f h : List ℤ) (n : length d ≡ 16) (rows : f ≡ table 16 (row_at d)) (columns : h ≡ columns_of f ++ []) where
  columns_are : h ≡ columns_of (table 16 (row_at d))
  columns_are = columns ∙ append-nil (columns_of f) ∙ ap columns_of rows

  rounded_are : (out : List ℤ) → out ≡ table (length h) (λ k. rounded (at h k)) → out ≡ inverse4x4 d
  rounded_are out e =
      e ∙ ap (λ h. table (length h) (λ c. rounded (at h c))) columns_are
      ∙ ap (λ n. table n (λ c. rounded (at (columns_of (table 16 (row_at d))) c))) (of_columns.long (table 16 (row_at d)))
      ∙ one_is d n

  told : all_in_range d ≡ true → all_in_range f && all_of last_in_range h ≡ in_range4x4 d
  told ok = ap₂ (λ f h. all_in_range f && all_of last_in_range h) rows columns_are ∙ one_told d n ok

-- a block in range has its numbers in range
pub returns-then-reach-ge32768 : goal.returns-then-reach-ge32768
returns-then-reach-ge32768 c = let d = c.args.d.now in
    let out = sym (tested c.with_list-reach.result d c.with_list-reach.ensures) ∙ le-ltb _ 32768 c.if-reach-ge32768.true in
    record { value = sym (ap (λ t. cond t 0 8) (no_from (in_range4x4 d) (in_numbers d c.requires.0) (λ g. not_both g out))); residuals = tt }

pub rows-requires : goal.rows-requires
rows-requires c = (omega (arith, c.requires.0), refl, passed c.with_list-reach.result c.args.d.now c.with_list-reach.ensures c.if-reach-ge32768.false)

pub columns-requires : goal.columns-requires
columns-requires c = let d = c.args.d.now in
    let ok = passed c.with_list-reach.result d c.with_list-reach.ensures c.if-reach-ge32768.false in
    (omega (arith, ap length c.rows.ensures ∙ length_table (pos 0) 16 (row_at d)), lit≤ tt, subst (AllWithin 131072) (sym c.rows.ensures) (rows_within d 16 ok))

pub round_all-requires : goal.round_all-requires
round_all-requires c = let d = c.args.d.now in
    let ok = passed c.with_list-reach.result d c.with_list-reach.ensures c.if-reach-ge32768.false in
    let h = columns_are d c.rows.new.f c.columns.new.h c.requires.0 c.rows.ensures c.columns.ensures in
    (ap length h ∙ of_columns.long (table 16 (row_at d)) ∙ sym c.requires.1, subst (AllWithin 524288) (sym h) (columns_within (table 16 (row_at d)) (rows_within d 16 ok)))

pub returns-then-not-values_in_range : goal.returns-then-not-values_in_range
returns-then-not-values_in_range c = let d = c.args.d.now in
    let ok = passed c.with_list-reach.result d c.with_list-reach.ensures c.if-reach-ge32768.false in
    let out = sym (told d c.rows.new.f c.columns.new.h c.requires.0 c.rows.ensures c.columns.ensures ok) ∙ sym c.values_in_range.ensures ∙ c.if-not-values_in_range.true in
    record { value = sym (ap (λ t. cond t 0 8) out); residuals = tt }

pub returns : goal.returns
returns c = let d = c.args.d.now in
    let r = c.with_list-reach.result in
    let ok = passed r d c.with_list-reach.ensures c.if-reach-ge32768.false in
    let good : in_range4x4 d ≡ true = elim c.else-reach-ge2048.branch [
      | else-reach-ge2048-via-then-reach-ge2048+else-not-values_in_range w ↦ sym (told d c.rows.new.f c.columns.new.h c.requires.0 c.rows.ensures c.columns.ensures ok)
          ∙ sym w.values_in_range.ensures ∙ w.if-not-values_in_range.false
      | else-reach-ge2048-via-else-reach-ge2048 w ↦ one_small d c.requires.0 (sym (c.with_list-reach.ensures 11) ∙ lt-ltb r 2048 w.if-reach-ge2048.false)
    ] in
    record { value = sym (ap (λ t. cond t 0 8) good); residuals = rounded_are d c.rows.new.f c.columns.new.h c.requires.0 c.rows.ensures c.columns.ensures c.round_all.new.out c.round_all.ensures }
