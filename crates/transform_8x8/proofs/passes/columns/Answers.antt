-- `transform_8x8::passes::columns` meets its contract. The invariant: the first j columns are put, and the reach tells of them. Assumes nothing.
use mathlib.Core.Path.{◌≡◌, refl, sym, ap, ap₂, ◌∙◌, subst}
use mathlib.Core.Bool.{Bool, true, false, ◌&&◌}
use mathlib.Core.List.{List}
use Prim.Native.Nat.{ℕ, ◌+◌, ◌*◌, ◌/◌, ◌%◌, ◌<◌}
use native.Mathlib.Omega.{arith}
use lib.IntN.{ℤ}
use lib.ListN.{length}
use Rattle.laws.specs.Range.{AllWithin, at}
use Rattle.laws.specs.Table.{all_below}
use Rattle.laws.proofs.Tests.{all_start, all_after}
use Rattle.numbers.specs.Numbers.{in_range, all_of, held, last_in_range}
use Rattle.residual.specs.Inverse.{rounded}
use Rattle.transform_8x8.specs.Inverse8x8.{third_step, one_dimensional}
use Rattle.transform_8x8.specs.inner.ByColumn.{column_at}
use Rattle.transform_8x8.specs.inner.Told.{odd_of, all_of_eight, column_in, column_told}
use Rattle.transform_8x8.proofs.Bounded.{third_all}
use Rattle.transform_8x8.proofs.Columns.{by_none, by_at, by_all}
use Rattle.transform_8x8.proofs.passes.columns.Goals as goal

-- number i of column j is in raster order number 8i + j
in_column_lem : (g : List ℤ) (i j : ℕ) → j < 8 → rounded (at (one_dimensional (λ i. at g (8 * i + j))) i) ≡ column_at g (8 * i + j)
in_column_lem g i j h =
    let r : (8 * i + j) / 8 ≡ i = omega arith in
    let c : (8 * i + j) % 8 ≡ j = omega arith in
    sym (ap₂ (λ (x y : ℕ). rounded (at (one_dimensional (λ i. at g (8 * i + y))) x)) r c)

eight : (f : ℕ → ℤ) → length (one_dimensional f) ≡ 8
unfolding third_step
eight f = refl

three : (s a b c : Bool) → s && a && b && c ≡ s && (a && b && c)
three true a b c = refl
three false a b c = refl

pub loop-j-init : goal.loop-j-init
loop-j-init c = (omega arith, by_none _ _, all_start _ _)

pub put_column-requires : goal.put_column-requires
put_column-requires c = (
  omega (arith, c.loop-j.invariant.1.long, c.requires.2),
  omega arith,
  subst (AllWithin 1782272) (sym c.column.ensures.g_value) (third_all 30208 _ (λ i. c.requires.1.each (8 * i + c.loop-j.j))),
)

pub loop-j-preserved : goal.loop-j-preserved
loop-j-preserved c = let g = c.args.g.now in
    let j = c.loop-j.j in
    let odd = all_of in_range (odd_of c.column.result.e) in
    let next : 8 * j + 8 ≡ 8 * (j + 1) = omega arith in (
      omega arith,
      by_at (column_at g) c.args.out.now next
          (c.put_column.ensures (column_at g) c.args.out.now (λ i h. ap (λ l. rounded (at l i)) c.column.ensures.g_value ∙ in_column_lem g i j (omega arith)) c.loop-j.invariant.1),
      c.with_last_list-reach.ensures
          ∙ ap (λ n. held c.with_odd.result && all_below n (λ k. last_in_range (at c.column.result.g k))) (ap length c.column.ensures.g_value ∙ eight _)
          ∙ ap (λ t. t && all_of_eight last_in_range c.column.result.g) (c.with_odd.ensures ∙ ap (λ t. t && odd) c.with_column.ensures)
          ∙ three (held c.loop-j.reach) (column_in g j) odd _
          ∙ all_after (held c.loop-j.reach) (held c.args.x) _ j (column_told g) c.loop-j.invariant.2
          (ap₂ (λ h m. column_in g j && all_of in_range (odd_of h) && all_of_eight last_in_range m) c.column.ensures.e_value c.column.ensures.g_value),
    )

pub shape_of-out : goal.shape_of-out
shape_of-out c = c.loop-j.invariant.1.long

pub returns : goal.returns
returns c = let g = c.args.g.now in
    let all : 8 * c.loop-j.j ≡ 64 = omega arith in
    let eight : c.loop-j.j ≡ 8 = omega arith in record { result_value = c.loop-j.invariant.2 ∙ ap (λ n. held c.args.x && all_below n (column_told g)) eight; out_after = by_all (column_at g) c.args.out.now c.requires.2 (by_at (column_at g) c.args.out.now all c.loop-j.invariant.1) }
