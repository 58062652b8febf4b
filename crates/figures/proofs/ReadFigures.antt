-- The figures of what is read and waited for, by computing both sides. Assumes nothing.
use Rattle.std.proofs.Common.{◌≡◌, false, refl}
use Rattle.laws.specs.Table.{some_below}
use Rattle.cut.specs.Cut.{scan_x, scan_y, is_there}
use Rattle.reads.specs.Groups.{reads8x8}
use Rattle.reads.specs.Groups.Group.{above_right}
use Rattle.reads.proofs.Tables.{by_marks, at_marks}
use Rattle.waits.specs.Waits.{waits}
use Rattle.figures.specs.ReadFigures.{ReadFigures}

never : by_marks (λ marks. reads8x8 marks 6 above_right) ≡ by_marks (λ marks. false)
never = refl

pub read_figures : ReadFigures
unfolding waits some_below is_there scan_x scan_y
read_figures = record {
  mode_6 = at_marks (λ marks. reads8x8 marks 6 above_right) (λ marks. false) never;
  mode_0 = λ marks e f. rw (e, f);
  sets = refl;
  whole = refl;
  whole_dc = refl;
  fours = refl;
  block_5 = refl;
  block_3 = refl;
  eights = refl;
  block_1 = refl;
}
