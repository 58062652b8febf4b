-- `residual::blocks::mark_quads` meets its contract. The invariant: the first q quads are marked, and it is told whether their numbers are in range.
-- Assumes nothing.
use mathlib.Core.Path.{◌≡◌, refl, sym, ap, ap₂, ◌∙◌}
use mathlib.Core.Bool.{Bool, cond, ◌&&◌}
use Prim.Native.Nat.{ℕ, ◌+◌, ◌*◌, ◌/◌, ◌^◌}
use native.Mathlib.Omega.{arith}
use lib.Dec.{ltb}
use lib.IntN.{pos}
use lib.ListN.{length}
use mir.Facts.{to_z-of_z}
use Rattle.laws.specs.Range.{at}
use Rattle.laws.specs.Table.{table}
use Rattle.laws.proofs.Tables.{filled_none, filled_more, filled_all}
use Rattle.laws.proofs.Tests.{all_none, all_next, all_same}
use Rattle.numbers.specs.Numbers.{is_zero, near}
use Rattle.numbers.proofs.Far.{near_range}
use Rattle.residual.specs.Quads.{coded_quad}
use Rattle.residual.proofs.Quads.{quad_all, quads_numbers}
use borrow.Author.Rules.{rules}
use Rattle.residual.proofs.blocks.mark_quads.Goals as goal

pub loop-q-init : goal.loop-q-init
loop-q-init c = (search rules, filled_none 0 _ _ _ refl, sym (all_none _))

pub loop-q-preserved : goal.loop-q-preserved
unfolding coded_quad is_zero
loop-q-preserved c = let l = c.args.list.now in
    let z = c.any_of.ensures.1 ∙ ap (λ t. is_zero (pos 0) && t) (quad_all l is_zero c.loop-q.q (omega (arith, c.requires))) in
    let told = λ (k : ℕ). c.with_list-reach.ensures k ∙ ap (λ t. ltb 0 (2 ^ k) && t) (quad_all l (near k) c.loop-q.q (omega (arith, c.requires))) in
    let mark = simp (to_z-of_z, c.any_of.ensures.0) at c.mark_of.ensures in (
      omega arith,
      filled_more 0 _ _ _ _ _ (omega arith) c.loop-q.invariant.1 (mark ∙ ap₂ (λ (t s : Bool). cond t 0 (cond s 1 2)) z (told 11)),
      ap₂ ◌&&◌ c.loop-q.invariant.2 (told 15 ∙ all_same 64 _ _ (λ k _. near_range (at l (64 * c.loop-q.q + k)))) ∙ all_next c.loop-q.q _,
    )

pub shape_of-coded : goal.shape_of-coded
shape_of-coded c = c.loop-q.invariant.1.long

pub returns : goal.returns
returns c = let l = c.args.list.now in
    let n : c.loop-q.q ≡ length c.args.coded.now = omega arith in
    let m : length c.args.coded.now ≡ length l / 64 = omega (arith, c.requires) in record { value = c.loop-q.invariant.2 ∙ quads_numbers l c.loop-q.q (omega (arith, c.requires)); coded_after = filled_all 0 _ _ c.loop-q.q c.loop-q.coded (omega arith) c.loop-q.invariant.1 ∙ ap (λ k. table k (coded_quad l)) m }
