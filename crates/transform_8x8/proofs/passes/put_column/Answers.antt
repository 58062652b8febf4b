-- `transform_8x8::passes::put_column` meets its contract. The invariant: the first i numbers of the column are put. Assumes nothing.
use mathlib.Core.Path.{◌≡◌, refl, sym, ◌∙◌}
use Prim.Native.Nat.{◌+◌, ◌*◌}
use native.Mathlib.Nat.{add-zero}
use native.Mathlib.Omega.{arith}
use lib.ListN.{length-set}
use Rattle.laws.proofs.Ints.{within_back, within_more}
use Rattle.residual.proofs.Transform.{column_at_lem}
use Rattle.transform_8x8.proofs.Columns.{by_at, by_more}
use Rattle.transform_8x8.proofs.passes.put_column.Goals as goal

pub loop-i-init : goal.loop-i-init
loop-i-init c = (omega arith, refl, λ f l same b. by_at f l (sym (add-zero (8 * c.args.j))) b)

pub round-requires : goal.round-requires
round-requires c = within_back 1782272 _ tt (c.requires.2.each c.loop-i.i)

pub loop-i-preserved : goal.loop-i-preserved
loop-i-preserved c = let i = c.loop-i.i in
    let j = c.args.j in (
      omega arith,
      length-set c.loop-i.out (8 * i + j) _ ∙ c.loop-i.invariant.1,
      λ f l same e. by_more f l i j (omega arith) c.requires.1 (omega (arith, c.requires.0, c.loop-i.invariant.1))
          (column_at_lem c.round.ensures (within_more 1782272 2097088 _ (c.requires.2.each i) tt) ∙ same i (omega arith)) (c.loop-i.invariant.2 f l same e),
    )

pub shape_of-out : goal.shape_of-out
shape_of-out c = c.loop-i.invariant.1

pub returns : goal.returns
returns c = λ f l same e. let all : 8 * c.args.j + c.loop-i.i ≡ 8 * c.args.j + 8 = omega arith in
    by_at f l all (c.loop-i.invariant.2 f l same e)
