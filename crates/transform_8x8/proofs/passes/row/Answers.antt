-- `transform_8x8::passes::row` meets its contract: the eight numbers read are those of the definition. Assumes nothing.
use mathlib.Core.Path.{sym, ap, ◌∙◌, subst}
use Prim.Native.Nat.{ℕ, ◌+◌, ◌*◌}
use lib.IntN.{ℤ}
use Rattle.laws.specs.Range.{AllWithin, at}
use Rattle.laws.proofs.Ints.{within_more, within_table}
use Rattle.numbers.proofs.InRange.{all_within}
use Rattle.transform_8x8.specs.Inverse8x8.{first_step, one_dimensional, e_row, f_row, g_row}
use Rattle.transform_8x8.proofs.Eights.{first_table, all_table}
use Rattle.transform_8x8.proofs.passes.row.Goals as goal

pub one_dimensional-requires : goal.one_dimensional-requires
one_dimensional-requires c = let d = c.args.d.now in
    subst (AllWithin 241664) (sym c.row_of.ensures)
    (within_table 241664 8 (λ j. at d (8 * c.args.i + j)) (λ j _. within_more 32768 241664 _ ((all_within d c.requires.1).each (8 * c.args.i + j)) tt))

pub returns : goal.returns
unfolding e_row f_row g_row
returns c = let f : ℕ → ℤ = λ j. at c.args.d.now (8 * c.args.i + j) in (
  c.one_dimensional.ensures.e_value ∙ ap (λ l. first_step (at l)) c.row_of.ensures ∙ first_table f,
  c.one_dimensional.ensures.g_value ∙ ap (λ l. one_dimensional (at l)) c.row_of.ensures ∙ all_table f,
)
