-- `residual::inverse::flatten` meets its contract. The invariant: the first b blocks are put, and none of them is too high. Assumes nothing.
use mathlib.Core.Path.{◌≡◌, sym, ap, ap₂, ◌∙◌}
use mathlib.Core.Bool.{◌&&◌}
use mathlib.Core.List.{◌++◌}
use Prim.Native.Nat.{ℕ, ◌+◌, ◌*◌, ◌-◌, ◌/◌}
use native.Mathlib.Omega.{arith}
use borrow.Rule.Slice.PartMut.{mid_of}
use lib.IntN.{ℤ, pos}
use lib.ListN.{length, drop, length-take, length-drop}
use lib.Signed.{le_z}
use mir.Syntax.{w32}
use mir.Val.{to_z, of_z}
use Rattle.laws.specs.Range.{at}
use Rattle.laws.specs.Table.{onto, all_below}
use Rattle.laws.proofs.Ints.{within_back, back}
use Rattle.laws.proofs.Ontos.{onto_none, onto_long, onto_row}
use Rattle.laws.proofs.Tables.{table_const}
use Rattle.laws.proofs.Tests.{all_none, all_next}
use Rattle.numbers.proofs.InRange.{in_range_within, all_at}
use Rattle.residual.specs.Inverse.{rounded}
use Rattle.residual.proofs.Quads.{flat_inverse, flat_range}
use borrow.Author.Rules.{rules}
use Rattle.residual.proofs.inverse.flatten.Goals as goal
use Rattle.residual.proofs.inverse.flatten.Goals.{In-loop-b}

-- `out` has kept its length
kept : (c : In-loop-b) → length c.loop-b.out ≡ length c.args.out.now
kept c = let a = c.args in
    onto_long (16 * c.loop-b.b) (λ k. rounded (at a.quad.numbers.now (k / 16 * 16))) a.out.now c.loop-b.out (omega (arith, c.requires.0)) c.loop-b.invariant.1

pub loop-b-init : goal.loop-b-init
loop-b-init c = (search rules, onto_none _ _, sym (all_none _))

pub flat-good-requires : goal.flat-good-requires
flat-good-requires c = let k = kept c.before.before in
    (simp (length-take, length-drop) (omega arith), within_back 32768 _ tt (in_range_within _ (all_at c.args.quad.numbers.now (16 * c.loop-b.b) c.args.quad.good)))

pub loop-b-preserved : goal.loop-b-preserved
loop-b-preserved c = let d = c.args.quad.numbers.now in
    let o = c.args.out.now in
    let n = c.loop-b.b in
    let F : ℕ → ℤ = λ k. rounded (at d (k / 16 * 16)) in
    let v = back 32768 {z = at d (16 * n)} (in_range_within (at d (16 * n)) (all_at d (16 * n) c.args.quad.good)) tt in
    let z = to_z w32 (of_z w32 (at d (16 * n))) in
    let part = mid_of (16 * n) (length c.loop-b.out - 16 * n) c.loop-b.out in
    let m : 16 * n + 16 ≡ 16 * (n + 1) = omega arith in (
      omega arith,
      onto_row (16 * n) 16 F (λ _. rounded z) o c.loop-b.out c.flat-good.new.out (omega (arith, c.requires.0)) c.loop-b.invariant.1
          (c.flat-good.ensures.out_after ∙ ap (λ t. t ++ drop 16 part) (sym (table_const 16 (rounded z))))
          (λ k h. ap rounded (v ∙ (let p : 16 * n ≡ (16 * n + k) / 16 * 16 = omega arith in ap (at d) p)))
          ∙ ap (λ k. onto k F o) m,
      ap₂ ◌&&◌ c.loop-b.invariant.2 (c.flat-good.ensures.value ∙ ap (λ z. le_z z (pos 32735)) v) ∙ all_next n (λ c. le_z (at d (16 * c)) (pos 32735)),
    )

pub shape_of-out : goal.shape_of-out
shape_of-out c = let a = c.args in
    onto_long (16 * c.loop-b.b) (λ k. rounded (at a.quad.numbers.now (k / 16 * 16))) a.out.now c.loop-b.out (omega (arith, c.requires.0)) c.loop-b.invariant.1

pub returns : goal.returns
returns c = let d = c.args.quad.numbers.now in
    let o = c.args.out.now in
    let n : c.loop-b.b ≡ 4 = omega arith in
    let m : 16 * c.loop-b.b ≡ 64 = omega arith in record { value = c.loop-b.invariant.2 ∙ ap (λ k. all_below k (λ c. le_z (at d (16 * c)) (pos 32735))) n ∙ sym (flat_range d c.requires.1 c.args.quad.good); out_after = c.loop-b.invariant.1 ∙ ap (λ k. onto k (λ k. rounded (at d (k / 16 * 16))) o) m ∙ ap (λ t. t ++ drop 64 o) (sym (flat_inverse d c.requires.1)) }

pub overflow_mul-b-in-loop-b : goal.overflow_mul-b-in-loop-b
overflow_mul-b-in-loop-b c = let k = kept c.before in search rules

pub offset_bounds-out-b : goal.offset_bounds-out-b
offset_bounds-out-b c = let k = kept c.before in search rules

pub slice_bounds-flat-count : goal.slice_bounds-flat-count
slice_bounds-flat-count c = let k = kept c.before in search rules

pub slice_bounds-flat-start : goal.slice_bounds-flat-start
slice_bounds-flat-start c = let k = kept c.before in search rules

pub slice_bounds-flat-end : goal.slice_bounds-flat-end
slice_bounds-flat-end c = let k = kept c.before in search rules
