-- `residual::passes::row` meets its contract: the four numbers read are those of the definition. Assumes nothing.
use mathlib.Core.Path.{sym, ap, ◌∙◌, subst}
use Prim.Native.Nat.{ℕ, ◌+◌, ◌*◌}
use lib.IntN.{ℤ, pos}
use Rattle.laws.specs.Range.{AllWithin, at}
use Rattle.laws.specs.Table.{table}
use Rattle.laws.proofs.Ints.{within_more, within_table}
use Rattle.laws.proofs.Tables.{get_d_table}
use Rattle.numbers.proofs.InRange.{all_within}
use Rattle.residual.specs.Inverse.{one_dimensional, e_row, f_row}
use Rattle.residual.proofs.TwoPasses.{one_same}
use Rattle.residual.proofs.passes.row.Goals as goal

pub one_dimensional-requires : goal.one_dimensional-requires
one_dimensional-requires c = let d = c.args.d.now in
    subst (AllWithin 131072) (sym c.row_of.ensures)
    (within_table 131072 4 (λ j. at d (4 * c.args.i + j)) (λ j _. within_more 32768 131072 _ ((all_within d c.requires.1).each (4 * c.args.i + j)) tt))

pub returns : goal.returns
unfolding e_row f_row
returns c = let f : ℕ → ℤ = λ j. at c.args.d.now (4 * c.args.i + j) in
    c.one_dimensional.ensures ∙ ap (λ l. one_dimensional (at l)) c.row_of.ensures ∙ one_same (at (table 4 f)) f (get_d_table (pos 0) 4 f)
