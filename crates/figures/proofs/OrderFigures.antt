-- The figures of checking orders, by computing both sides. Assumes nothing.
use Rattle.std.proofs.Common.{refl}
use Rattle.laws.specs.Table.{all_below, some_below}
use Rattle.maps.specs.Size.{size_ok}
use Rattle.turn_list.specs.Turn.{leading}
use Rattle.order_check.specs.Check.{named_before, entry_ok, out_of_place, verdict_of, order_answer}
use Rattle.figures.specs.OrderFigures.{OrderFigures}

pub order_figures : OrderFigures
unfolding all_below some_below size_ok leading named_before entry_ok out_of_place verdict_of order_answer
order_figures = record {
  raster_yes = refl;
  raster_end = refl;
  before_a = refl;
  before_b = refl;
  before_c = refl;
  before_c_no = refl;
  before_d = refl;
  after_d = refl;
  doubled = refl;
  row_slices = refl;
  own_slices = refl;
  diagonals_down = refl;
  diagonals_up = refl;
  taken = refl;
  outside = refl;
  one_short = refl;
  one_more = refl;
  map_first = refl;
  size_first = refl;
}
