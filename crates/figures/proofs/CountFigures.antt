-- The figures of counting turns, by computing both sides. Assumes nothing.
use Rattle.std.proofs.Common.{refl}
use Rattle.laws.specs.Table.{table, all_below}
use Rattle.maps.specs.Done.{all_settled}
use Rattle.turn_list.specs.Turn.{leading, gapless, turn_row, turn}
use Rattle.turn_count.specs.Count.{done_after, turn_count}
use Rattle.turn_count.specs.Due.{latest_above, due_in_row, due}
use Rattle.figures.specs.CountFigures.{CountFigures}

pub count_figures : CountFigures
unfolding table all_below leading gapless turn_row turn all_settled done_after turn_count latest_above due_in_row due
count_figures = record {
  one_slice_lem = refl;
  one_slice_due = refl;
  row_slices = refl;
  mid_row = refl;
  mid_row_due = refl;
  one_row = refl;
  one_column = refl;
  column_slices = refl;
}
