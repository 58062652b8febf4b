-- `transform_8x8::passes::rows` meets its contract. The invariant: the first i rows are put, and the reach tells of them. Assumes nothing.
use mathlib.Core.Path.{◌≡◌, sym, ap, ap₂, ◌∙◌}
use mathlib.Core.Bool.{◌&&◌}
use mathlib.Core.List.{List}
use Prim.Native.Nat.{ℕ, ◌+◌, ◌*◌, ◌/◌, ◌%◌, ◌<◌}
use native.Mathlib.Omega.{arith}
use lib.IntN.{ℤ}
use lib.ListN.{length}
use Rattle.laws.specs.Range.{at}
use Rattle.laws.specs.Table.{onto, all_below}
use Rattle.laws.proofs.Ontos.{onto_none, onto_all, onto_long}
use Rattle.laws.proofs.Tests.{all_none, all_next}
use Rattle.numbers.specs.Numbers.{in_range, all_of}
use Rattle.transform_8x8.specs.Inverse8x8.{g_row}
use Rattle.transform_8x8.specs.inner.ByColumn.{row_at}
use Rattle.transform_8x8.specs.inner.Told.{odd_of, row_told}
use Rattle.transform_8x8.proofs.passes.rows.Goals as goal
use Rattle.transform_8x8.proofs.passes.rows.Goals.{At-loop-i}

-- the block has kept its length
long : (c : At-loop-i) → length c.loop-i.g ≡ 64
long c = onto_long (8 * c.loop-i.i) _ c.args.g.now c.loop-i.g (omega (arith, c.loop-i.invariant.0, c.requires.2)) c.loop-i.invariant.1 ∙ c.requires.2

-- number j of row i is in raster order number 8i + j
in_row : (d : List ℤ) (i j : ℕ) → j < 8 → at (g_row d i) j ≡ row_at d (8 * i + j)
in_row d i j h =
    let r : (8 * i + j) / 8 ≡ i = omega arith in
    let c : (8 * i + j) % 8 ≡ j = omega arith in
    sym (ap₂ (λ (x y : ℕ). at (g_row d x) y) r c)

pub loop-i-init : goal.loop-i-init
loop-i-init c = (omega arith, onto_none _ _, sym (all_none _))

pub put_row-requires : goal.put_row-requires
put_row-requires c = (long c.before.before.before.before.before, omega arith)

pub loop-i-preserved : goal.loop-i-preserved
loop-i-preserved c = let d = c.args.d.now in
    let i = c.loop-i.i in
    let next : 8 * i + 8 ≡ 8 * (i + 1) = omega arith in (
      omega arith,
      c.put_row.ensures (row_at d) c.args.g.now c.requires.2 (λ j h. ap (λ l. at l j) c.row.ensures.1 ∙ in_row d i j h) c.loop-i.invariant.1
          ∙ ap (λ n. onto n (row_at d) c.args.g.now) next,
      c.with_odd-reach.ensures ∙ ap₂ ◌&&◌ c.loop-i.invariant.2 (ap (λ e. all_of in_range (odd_of e)) c.row.ensures.0) ∙ all_next i (row_told d),
    )

pub shape_of-g : goal.shape_of-g
shape_of-g c = long c.before ∙ sym c.requires.2

pub returns : goal.returns
returns c = let d = c.args.d.now in
    let all : 8 * c.loop-i.i ≡ 64 = omega arith in
    let eight : c.loop-i.i ≡ 8 = omega arith in record { result_value = c.loop-i.invariant.2 ∙ ap (λ n. all_below n (row_told d)) eight; g_after = c.loop-i.invariant.1 ∙ ap (λ n. onto n (row_at d) c.args.g.now) all ∙ onto_all 64 (row_at d) c.args.g.now c.requires.2 }
