-- `transform_8x8::passes::with_column` meets its contract: it is `with_list` of the column. Assumes nothing.
use mathlib.Core.Path.{◌≡◌, ap, ◌∙◌}
use mathlib.Core.Bool.{◌&&◌}
use Prim.Native.Nat.{ℕ, ◌+◌, ◌*◌}
use lib.IntN.{ℤ, pos}
use Rattle.laws.specs.Range.{at}
use Rattle.laws.specs.Table.{table, all_below}
use Rattle.laws.proofs.Tables.{length_table, get_d_table}
use Rattle.laws.proofs.Tests.{all_same}
use Rattle.numbers.specs.Numbers.{in_range, all_of, held}
use Rattle.numbers.proofs.Far.{near_each}
use Rattle.transform_8x8.specs.inner.Told.{column_in}
use Rattle.transform_8x8.proofs.passes.with_column.Goals as goal

pub returns : goal.returns
returns c = let f : ℕ → ℤ = λ i. at c.args.g.now (8 * i + c.args.j) in
    let told : all_of in_range (table 8 f) ≡ column_in c.args.g.now c.args.j = ap (λ n. all_below n (λ k. in_range (at (table 8 f) k))) (length_table (pos 0) 8 f)
    ∙ all_same 8 _ _ (λ k h. ap in_range (get_d_table (pos 0) 8 f k h)) in
    c.with_list.ensures 15 ∙ ap (λ t. held c.args.x && t) (near_each c.column_of.result ∙ ap (all_of in_range) c.column_of.ensures ∙ told)
