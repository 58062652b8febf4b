-- `transform_8x8::rows::put_row` meets its contract. The invariant: the first j numbers of the row are put. Assumes nothing.
use mathlib.Core.Path.{◌≡◌, sym, ap, ◌∙◌}
use Prim.Native.Nat.{◌+◌, ◌*◌}
use native.Mathlib.Nat.{add-zero}
use native.Mathlib.Omega.{arith}
use lib.ListN.{length-set}
use mir.Facts.{to_z-of_z}
use mir.Syntax.{w32}
use Rattle.laws.specs.Range.{at}
use Rattle.laws.specs.Table.{onto}
use Rattle.laws.proofs.Ontos.{onto_next}
use borrow.Author.Rules.{rules}
use Rattle.transform_8x8.proofs.rows.put_row.Goals as goal

pub loop-j-init : goal.loop-j-init
loop-j-init c = (omega arith, c.requires.0, λ f l long same e. e ∙ ap (λ n. onto n f l) (sym (add-zero (8 * c.args.i))))

pub loop-j-preserved : goal.loop-j-preserved
loop-j-preserved c = let i = c.args.i in
    let j = c.loop-j.j in (
      omega arith,
      length-set c.loop-j.g (8 * i + j) _ ∙ c.loop-j.invariant.1,
      λ f l long same e. onto_next (8 * i + j) (8 * i + (j + 1)) f l (omega arith) (omega arith) (c.loop-j.invariant.2 f l long same e) (to_z-of_z {w = w32} {z = at c.args.v j} (search rules) ∙ same j (omega arith)),
    )

pub shape_of-g : goal.shape_of-g
shape_of-g c = c.loop-j.invariant.1 ∙ sym c.requires.0

pub returns : goal.returns
returns c = λ f l long same e. let eight : c.loop-j.j ≡ 8 = omega arith in
    c.loop-j.invariant.2 f l long same e ∙ ap (λ n. onto (8 * c.args.i + n) f l) eight
