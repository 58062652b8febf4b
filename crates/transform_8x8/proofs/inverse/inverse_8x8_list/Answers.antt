-- `transform_8x8::inverse::inverse_8x8_list` meets its contract: its block is all of a list of one block. Assumes nothing.
use mathlib.Core.Path.{◌≡◌, sym, ap, ◌∙◌}
use mathlib.Core.Bool.{Bool, true, cond}
use mathlib.Core.List.{List}
use borrow.Author.Tests.{eq-eqb}
use lib.Dec.{lit<}
use lib.IntN.{ℤ, pos}
use lib.ListN.{length, replicate}
use Rattle.laws.specs.Table.{blockwise, all_blocks}
use Rattle.laws.proofs.Answers.{put}
use Rattle.laws.proofs.Blockwise.{block_alone, test_alone}
use Rattle.numbers.specs.Numbers.{all_in_range}
use Rattle.residual.proofs.Rooms.{copied}
use Rattle.transform_8x8.specs.Inverse8x8.{inverse8x8, in_range8x8}
use Rattle.transform_8x8.proofs.Columns.{of_block}
use Rattle.transform_8x8.proofs.Halfway.{range_of_block, in_numbers, fits_8x8}
use Rattle.transform_8x8.proofs.inverse.inverse_8x8_list.Goals as goal

module _ (l : List ℤ) (long : length l ≡ 64) where
  -- what is told of the one block
  told : {b : Bool} → b ≡ all_blocks 64 in_range8x8 l → b ≡ in_range8x8 l
  told e = e ∙ test_alone 64 in_range8x8 range_of_block l long (lit< tt)

  -- and its residuals
  made : {out : List ℤ} → in_range8x8 l ≡ true → out ≡ cond (all_in_range l) (blockwise 64 inverse8x8 l) (replicate 64 (pos 0)) → out ≡ inverse8x8 l
  made good e = e ∙ ap (λ t. cond t (blockwise 64 inverse8x8 l) (replicate 64 (pos 0))) (in_numbers l long good) ∙ block_alone 64 inverse8x8 of_block l long

pub returns-then-not-branch-clause-value : goal.returns-then-not-branch-clause-value
returns-then-not-branch-clause-value c = let out = sym (told c.args.deq.now c.if-deq-ne64.false c.in_ok-inverse_blocks.ensures.in_range_value) ∙ c.if-not-branch.true in
    rw (eq-eqb _ _ c.if-deq-ne64.false, eq-eqb _ _ c.if-out-ne64.false, out)

pub returns : goal.returns
returns c = let l = c.args.deq.now in
    let long = c.if-deq-ne64.false in
    let e = c.in_ok-inverse_blocks.ensures in
    let good = sym (told l long e.in_range_value) ∙ c.if-not-branch.false in
    let m = made l long good e.out_after in
    let k = copied _ _ (ap length m ∙ of_block.long l ∙ sym c.if-out-ne64.false) c.widen_all.ensures.value c.widen_all.ensures.out_after in
    record {
      value = k.0 ∙ rw (eq-eqb _ _ c.if-deq-ne64.false, eq-eqb _ _ c.if-out-ne64.false, good);
      out_after = k.1 ∙ m ∙ sym (put _ _ k.0);
      fits8x8 = λ z. fits_8x8 l good;
    }
