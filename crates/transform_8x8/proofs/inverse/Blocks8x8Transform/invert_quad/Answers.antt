-- The transform of 8x8 blocks meets its contract: the easy forms are what it gives. Assumes nothing.
use mathlib.Core.Path.{◌≡◌, sym, ap, ◌∙◌}
use mathlib.Core.List.{List, ◌++◌}
use Prim.Native.Nat.{min, ◌≤◌}
use native.Mathlib.Omega.{arith}
use lib.Dec.{lit<}
use lib.IntN.{ℤ, pos}
use lib.ListN.{length, drop, replicate, length-take}
use Rattle.laws.specs.Range.{at}
use Rattle.laws.specs.Table.{table, blockwise, all_blocks}
use Rattle.laws.proofs.Blockwise.{block_alone, test_alone}
use Rattle.laws.proofs.Tables.{length_table}
use Rattle.residual.proofs.InQuads.{kth, told_in, put_in}
use Rattle.residual.proofs.Quads.{first_uncoded}
use Rattle.transform_8x8.specs.Inverse8x8.{inverse8x8, in_range8x8}
use Rattle.transform_8x8.proofs.Columns.{of_block}
use Rattle.transform_8x8.proofs.Firsts.{zero_inverse, zero_range}
use Rattle.transform_8x8.proofs.Halfway.{range_of_block}
use Rattle.transform_8x8.proofs.inverse.Blocks8x8Transform.invert_quad.Goals as goal

-- one block is all of a quad
inverse_is : (d : List ℤ) → blockwise 64 inverse8x8 (table 64 (at d)) ≡ inverse8x8 d
inverse_is d = block_alone 64 inverse8x8 of_block (table 64 (at d)) (length_table (pos 0) 64 (at d)) ∙ of_block.same (table 64 (at d)) d (kth d)

range_is : (d : List ℤ) → all_blocks 64 in_range8x8 (table 64 (at d)) ≡ in_range8x8 d
range_is d = test_alone 64 in_range8x8 range_of_block (table 64 (at d)) (length_table (pos 0) 64 (at d)) (lit< tt) ∙ range_of_block.same (table 64 (at d)) d (kth d)

pub returns-then-quad-eq0 : goal.returns-then-quad-eq0
returns-then-quad-eq0 c = let d = c.args.quad.numbers.now in
    let o = c.args.out.now in
    let h : 64 ≤ length o = omega (arith, c.if-out-lt64.false) in
    let z = first_uncoded d (sym c.args.quad.marked ∙ c.if-quad-eq0.true) in
    let n : min 64 (length o) ≡ 64 = omega (arith, h) in
    record {
      value = sym (range_is d ∙ zero_range d z c.args.quad.good) ∙ sym (told_in (length o) _ h);
      out_after = ap (λ t. t ++ drop 64 o) (c.fill.ensures.after (λ y e. e) ∙ ap (λ k. replicate k (pos 0)) (length-take 64 o ∙ n) ∙ sym (inverse_is d ∙ zero_inverse d z))
          ∙ sym (put_in (length o) _ o h);
    }

pub returns-then-only_first : goal.returns-then-only_first
returns-then-only_first c = let d = c.args.quad.numbers.now in
    let o = c.args.out.now in
    let h : 64 ≤ length o = omega (arith, c.if-out-lt64.false) in
    record {
      value = c.flat.ensures.value ∙ sym (range_is d) ∙ sym (told_in (length o) _ h);
      out_after = c.flat.ensures.out_after ∙ ap (λ t. t ++ drop 64 o) (sym (inverse_is d)) ∙ sym (put_in (length o) _ o h);
    }

pub returns : goal.returns
returns c = let d = c.args.quad.numbers.now in
    let o = c.args.out.now in
    let h : 64 ≤ length o = omega (arith, c.if-out-lt64.false) in
    record {
      value = c.invert.ensures.value ∙ sym (range_is d) ∙ sym (told_in (length o) _ h);
      out_after = c.invert.ensures.out_after ∙ ap (λ t. t ++ drop 64 o) (sym (inverse_is d)) ∙ sym (put_in (length o) _ o h);
    }
