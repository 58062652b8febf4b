-- The figures of turns, by computing both sides. Assumes nothing.
use Rattle.std.proofs.Common.{refl}
use Rattle.laws.specs.Table.{table}
use Rattle.maps.specs.Done.{all_settled}
use Rattle.turn_list.specs.Turn.{leading, gapless, turn_row, turn}
use Rattle.figures.specs.TurnFigures.{TurnFigures}

pub turn_figures : TurnFigures
unfolding table leading gapless turn_row turn all_settled
turn_figures = record {
  turn_1 = refl;
  turn_2 = refl;
  turn_3 = refl;
  turn_4 = refl;
  turn_5 = refl;
  all_done = refl;
  counts = refl;
  shared_before = refl;
  shared_after = refl;
  row_slices = refl;
}
