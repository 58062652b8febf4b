-- `residual::inverse::invert_four` meets its contract. The invariant: the columns of the first b blocks are put. Assumes nothing.
use mathlib.Core.Path.{◌≡◌, refl, sym, ap, ap₂, ◌∙◌, subst}
use mathlib.Core.Bool.{◌&&◌}
use mathlib.Core.List.{List, ◌++◌}
use Prim.Native.Nat.{ℕ, ◌*◌, ◌-◌}
use native.Mathlib.Omega.{arith}
use borrow.Author.Tests.{eq-eqb}
use borrow.Rule.Slice.PartMut.{put_mid, mid_of}
use lib.IntN.{ℤ, pos}
use lib.ListN.{length, drop, replicate, length-take, length-drop}
use Rattle.laws.specs.Range.{AllWithin, at}
use Rattle.laws.specs.Table.{table, onto, blockwise}
use Rattle.laws.proofs.Blockwise.{block_at, block_more}
use Rattle.laws.proofs.Ints.{within_part}
use Rattle.laws.proofs.Ontos.{onto_none, onto_all}
use Rattle.laws.proofs.Tables.{length_table}
use Rattle.numbers.specs.Numbers.{all_in_range, all_of, last_in_range}
use Rattle.residual.specs.Inverse.{rounded}
use Rattle.residual.specs.inner.Passes.{row_at, columns_of}
use Rattle.residual.specs.inner.Quads.{quad_inverse}
use Rattle.residual.proofs.Quads.{first_small}
use Rattle.residual.proofs.TwoPasses.{of_columns, rows_within, quad_within, quad_is, quad_told, quad_small}
use Rattle.residual.proofs.inverse.invert_four.Goals as goal

-- the transformed rows
rows_long : (f d : List ℤ) → f ≡ table 64 (row_at d) → length f ≡ 64
rows_long f d e = ap length e ∙ length_table (pos 0) 64 (row_at d)

-- the transformed columns of all four blocks
columns_are : (b : ℕ) (f d h : List ℤ) → b ≡ 4 → f ≡ table 64 (row_at d) → h ≡ onto (16 * b) (block_at 16 columns_of f) (replicate 64 (pos 0))
    → h ≡ blockwise 16 columns_of (table 64 (row_at d))
columns_are b f d h n e p =
    p ∙ ap (λ b. onto (16 * b) (block_at 16 columns_of f) (replicate 64 (pos 0))) n ∙ onto_all 64 (block_at 16 columns_of f) (replicate 64 (pos 0)) refl
    ∙ ap (λ n. table n (block_at 16 columns_of f)) (sym (rows_long f d e)) ∙ ap (blockwise 16 columns_of) e

-- the residuals
rounded_are : (h d out : List ℤ) → h ≡ blockwise 16 columns_of (table 64 (row_at d)) → length h ≡ 64 → out ≡ table (length h) (λ k. rounded (at h k))
    → out ≡ quad_inverse d
rounded_are h d out e n p = p ∙ ap (λ n. table n (λ k. rounded (at h k))) n ∙ ap (λ h. table 64 (λ k. rounded (at h k))) e ∙ quad_is d

pub rows-requires : goal.rows-requires
rows-requires c = (c.args.quad.long, refl, c.args.quad.good)

pub loop-b-init : goal.loop-b-init
loop-b-init c = (omega arith, onto_none _ _)

pub columns-requires : goal.columns-requires
columns-requires c = let l = rows_long c.rows.new.f c.args.quad.numbers.now c.rows.ensures in (
  simp (length-take, length-drop) (omega arith),
  simp (length-take, length-drop) (omega arith),
  within_part 131072 (16 * c.loop-b.b) (64 - 16 * c.loop-b.b) c.rows.new.f (subst (AllWithin 131072) (sym c.rows.ensures) (rows_within c.args.quad.numbers.now 64 c.args.quad.good)),
)

pub loop-b-preserved : goal.loop-b-preserved
loop-b-preserved c = let f = c.rows.new.f in
    let h = c.loop-b.h in
    let n = 16 * c.loop-b.b in
    let ys = c.columns.new.h in
    let l = rows_long f c.args.quad.numbers.now c.rows.ensures in
    let m : length h ≡ 64 = omega arith in (
      omega arith,
      ap (λ m. put_mid n (m - n) h ys) (sym m)
          ∙ block_more 16 columns_of of_columns c.loop-b.b f (replicate 64 (pos 0)) h c.loop-b.invariant.1 (omega arith) (sym l) ys
          (c.columns.ensures ∙ ap₂ (λ (x y : ℕ). columns_of (mid_of n (x - n) f) ++ drop 16 (mid_of n (y - n) h)) (sym l) (sym m)),
    )

pub round_all-requires : goal.round_all-requires
round_all-requires c = let h = columns_are c.loop-b.b c.rows.new.f c.args.quad.numbers.now c.loop-b.h (omega arith) c.rows.ensures c.loop-b.invariant.1 in
    (omega (arith, length-take 64 c.args.out.now), subst (AllWithin 524288) (sym h) (quad_within c.args.quad.numbers.now c.args.quad.good))

pub returns-then-quad-eq1 : goal.returns-then-quad-eq1
returns-then-quad-eq1 c = let h = columns_are c.loop-b.b c.rows.new.f c.args.quad.numbers.now c.loop-b.h (omega arith) c.rows.ensures c.loop-b.invariant.1 in
    record {
      value = eq-eqb c.args.quad.mark 1 c.if-quad-eq1.true ∙ sym (quad_small c.args.quad.numbers.now (first_small c.args.quad.numbers.now (sym c.args.quad.marked ∙ c.if-quad-eq1.true)));
      out_after = ap (λ t. t ++ drop 64 c.args.out.now) (rounded_are c.loop-b.h c.args.quad.numbers.now c.round_all.new.out h (omega arith) c.round_all.ensures);
    }

pub returns-else-quad-eq1 : goal.returns-else-quad-eq1
returns-else-quad-eq1 c = let h = columns_are c.loop-b.b c.rows.new.f c.args.quad.numbers.now c.loop-b.h (omega arith) c.rows.ensures c.loop-b.invariant.1 in
    record {
      value = c.values_in_range.ensures ∙ ap₂ (λ f h. all_in_range f && all_of last_in_range h) c.rows.ensures h ∙ quad_told c.args.quad.numbers.now c.args.quad.good;
      out_after = ap (λ t. t ++ drop 64 c.args.out.now) (rounded_are c.loop-b.h c.args.quad.numbers.now c.round_all.new.out h (omega arith) c.round_all.ensures);
    }
