-- `residual::passes::rows` meets its contract. The invariant: the first i rows are put. Assumes nothing.
use mathlib.Core.Path.{◌≡◌, refl, sym, ap, ◌∙◌}
use Prim.Native.Nat.{◌+◌, ◌*◌}
use native.Mathlib.Omega.{arith}
use lib.ListN.{length}
use Rattle.laws.specs.Range.{at}
use Rattle.laws.specs.Table.{onto}
use Rattle.laws.proofs.Ontos.{onto_none, onto_all, onto_long}
use Rattle.residual.specs.inner.Passes.{row_at}
use Rattle.residual.proofs.TwoPasses.{in_row}
use borrow.Author.Rules.{rules}
use Rattle.residual.proofs.passes.rows.Goals as goal
use Rattle.residual.proofs.passes.rows.Goals.{At-loop-i}

-- the list has kept its length
long : (c : At-loop-i) → length c.loop-i.f ≡ length c.args.f.now
long c = onto_long (4 * c.loop-i.i) _ c.args.f.now c.loop-i.f (omega (arith, c.loop-i.invariant.0)) c.loop-i.invariant.1

pub loop-i-init : goal.loop-i-init
loop-i-init c = (search rules, onto_none _ _)

pub row-requires : goal.row-requires
row-requires c = (omega (arith, c.requires.0, c.requires.1), c.requires.2)

pub put_row-requires : goal.put_row-requires
put_row-requires c = omega (arith, long c.before.before.before, c.requires.1)

pub loop-i-preserved : goal.loop-i-preserved
loop-i-preserved c = let d = c.args.d.now in
    let i = c.loop-i.i in
    let next : 4 * i + 4 ≡ 4 * (i + 1) = omega arith in (
      omega arith,
      c.put_row.ensures (row_at d) c.args.f.now (sym (long c.before.before.before.before.before)) (λ j h. ap (λ l. at l j) c.row.ensures ∙ in_row d i j h) c.loop-i.invariant.1
          ∙ ap (λ n. onto n (row_at d) c.args.f.now) next,
    )

pub shape_of-f : goal.shape_of-f
shape_of-f c = long c.before

pub returns : goal.returns
returns c = let all : 4 * c.loop-i.i ≡ length c.args.f.now = omega (arith, c.requires.1) in
    c.loop-i.invariant.1 ∙ ap (λ n. onto n (row_at c.args.d.now) c.args.f.now) all ∙ onto_all _ (row_at c.args.d.now) c.args.f.now refl
