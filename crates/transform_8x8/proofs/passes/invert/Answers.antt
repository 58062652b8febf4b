-- `transform_8x8::passes::invert` meets its contract: the columns are those of the transformed rows, and the reach of both tells of every value. Assumes
-- nothing.
use mathlib.Core.Path.{sym, ap, ap₂, ◌∙◌, subst}
use mathlib.Core.Bool.{◌&&◌}
use Prim.Native.Nat.{◌/◌, ◌%◌}
use lib.IntN.{pos}
use lib.ListN.{length}
use Rattle.laws.specs.Range.{AllWithin}
use Rattle.laws.specs.Table.{all_below}
use Rattle.laws.proofs.Ints.{within_table}
use Rattle.laws.proofs.Ontos.{onto_same}
use Rattle.laws.proofs.Tables.{length_table}
use Rattle.transform_8x8.specs.Inverse8x8.{inverse8x8}
use Rattle.transform_8x8.specs.inner.ByColumn.{row_at, column_at}
use Rattle.transform_8x8.specs.inner.Told.{column_told}
use Rattle.transform_8x8.proofs.Bounded.{bounds}
use Rattle.transform_8x8.proofs.Columns.{residual_at, columns_are}
use Rattle.transform_8x8.proofs.Halfway.{told}
use Rattle.transform_8x8.proofs.passes.invert.Goals as goal

pub columns-requires : goal.columns-requires
columns-requires c = let d = c.args.quad.numbers.now in (
  ap length c.rows-after_rows.ensures.g_after ∙ length_table (pos 0) 64 (row_at d),
  subst (AllWithin 241664) (sym c.rows-after_rows.ensures.g_after) (within_table 241664 64 (row_at d) (λ k _. ((bounds d c.args.quad.good).g (k / 8)).each (k % 8))),
  c.requires,
)

pub returns : goal.returns
unfolding inverse8x8
returns c = let d = c.args.quad.numbers.now in record { value = c.columns.ensures.result_value ∙ ap₂ (λ t g. t && all_below 8 (column_told g)) c.rows-after_rows.ensures.result_value c.rows-after_rows.ensures.g_after ∙ told d c.args.quad.good; out_after = c.columns.ensures.out_after ∙ onto_same 64 (column_at c.rows-after_rows.new.g) (residual_at d) c.args.out.now (λ k h. ap (λ g. column_at g k) c.rows-after_rows.ensures.g_after ∙ columns_are d k h) }
