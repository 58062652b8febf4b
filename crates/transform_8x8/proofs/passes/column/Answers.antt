-- `transform_8x8::passes::column` meets its contract: the eight numbers read are those of the column. Assumes nothing.
use mathlib.Core.Path.{sym, ap, ◌∙◌, subst}
use Prim.Native.Nat.{ℕ, ◌+◌, ◌*◌}
use lib.IntN.{ℤ}
use Rattle.laws.specs.Range.{AllWithin, at}
use Rattle.laws.proofs.Ints.{within_table}
use Rattle.transform_8x8.specs.Inverse8x8.{first_step, one_dimensional}
use Rattle.transform_8x8.proofs.Eights.{first_table, all_table}
use Rattle.transform_8x8.proofs.passes.column.Goals as goal

pub one_dimensional-requires : goal.one_dimensional-requires
one_dimensional-requires c = subst (AllWithin 241664) (sym c.column_of.ensures) (within_table 241664 8 (λ i. at c.args.g.now (8 * i + c.args.j)) (λ i _. c.requires.1.each (8 * i + c.args.j)))

pub returns : goal.returns
returns c = let f : ℕ → ℤ = λ i. at c.args.g.now (8 * i + c.args.j) in
    record {
      e_value = c.one_dimensional.ensures.e_value ∙ ap (λ l. first_step (at l)) c.column_of.ensures ∙ first_table f;
      g_value = c.one_dimensional.ensures.g_value ∙ ap (λ l. one_dimensional (at l)) c.column_of.ensures ∙ all_table f;
    }
