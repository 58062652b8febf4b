-- `intra_nxn::run::Neighbours::draw` meets its contract, mode by mode: the windows of each mode's lines are the mode's rows. Assumes nothing.
use mathlib.Core.Path.{ap}
use native.Mathlib.Omega.{arith}
use Rattle.basics.specs.Modes.{luma_mode}
use Rattle.intra_nxn.proofs.Slides.{vertical_rows, horizontal_rows, dc_rows, down_left_rows, down_right_rows, vertical_right_rows}
use Rattle.intra_nxn.proofs.Slides.{horizontal_down_rows, vertical_left_rows, horizontal_up_rows}
use Rattle.intra_nxn.proofs.run.Neighbours.draw.Goals as goal

pub returns-in-Vertical : goal.returns-in-Vertical
returns-in-Vertical g c p run = let s = c.args.sides in
    vertical_rows g.row.N p _ (omega arith) (omega arith) (omega arith) run s.above s.left c.args.out.now c.requires (ap luma_mode c.in-Vertical.is)
    c.slide.ensures

pub returns-in-Horizontal : goal.returns-in-Horizontal
returns-in-Horizontal g c p run = let s = c.args.sides in
    horizontal_rows g.row.N p _ (omega arith) (omega arith) (omega arith) run s.above s.left c.args.out.now c.requires (ap luma_mode c.in-Horizontal.is)
    c.beside.ensures

pub returns-in-Dc : goal.returns-in-Dc
returns-in-Dc g c p run = let s = c.args.sides in
    dc_rows g.row.N p _ (omega arith) (omega arith) (omega arith) run s.above s.left c.args.out.now c.requires (ap luma_mode c.in-Dc.is)
    _ (c.dc.ensures p run) (c.fill.ensures.after (λ v h. h))

pub returns-in-DiagonalDownLeft : goal.returns-in-DiagonalDownLeft
returns-in-DiagonalDownLeft g c p run = let s = c.args.sides in
    down_left_rows g.row.N p _ (omega arith) (omega arith) (omega arith) run s.above s.left c.args.out.now c.requires (ap luma_mode c.in-DiagonalDownLeft.is)
    _ c.along-line.ensures c.slide-in-DiagonalDownLeft.ensures

pub returns-in-DiagonalDownRight : goal.returns-in-DiagonalDownRight
returns-in-DiagonalDownRight g c p run = let s = c.args.sides in
    down_right_rows g.row.N p _ (omega arith) (omega arith) (omega arith) run s.above s.left c.args.out.now c.requires (ap luma_mode c.in-DiagonalDownRight.is)
    _ c.along-line-in-DiagonalDownRight.ensures c.slide-in-DiagonalDownRight.ensures

pub returns-in-VerticalRight : goal.returns-in-VerticalRight
returns-in-VerticalRight g c p run = let s = c.args.sides in
    vertical_right_rows g.row.N p _ (omega arith) (omega arith) (omega arith) run s.above s.left c.args.out.now c.requires (ap luma_mode c.in-VerticalRight.is)
    _ _ c.right_line-even.ensures c.right_line-odd.ensures c.slide-in-VerticalRight.ensures

pub returns-in-HorizontalDown : goal.returns-in-HorizontalDown
returns-in-HorizontalDown g c p run = let s = c.args.sides in
    horizontal_down_rows g.row.N p _ (omega arith) (omega arith) (omega arith) run s.above s.left c.args.out.now c.requires (ap luma_mode c.in-HorizontalDown.is)
    _ c.down_line-line.ensures c.slide-in-HorizontalDown.ensures

pub returns-in-VerticalLeft : goal.returns-in-VerticalLeft
returns-in-VerticalLeft g c p run = let s = c.args.sides in
    vertical_left_rows g.row.N p _ (omega arith) (omega arith) (omega arith) run s.above s.left c.args.out.now c.requires (ap luma_mode c.in-VerticalLeft.is)
    _ _ c.along-even.ensures c.along-odd.ensures c.slide-in-VerticalLeft.ensures

pub returns-in-HorizontalUp : goal.returns-in-HorizontalUp
returns-in-HorizontalUp g c p run = let s = c.args.sides in
    horizontal_up_rows g.row.N p _ (omega arith) (omega arith) (omega arith) run s.above s.left c.args.out.now c.requires (ap luma_mode c.in-HorizontalUp.is)
    _ c.up_line-line.ensures c.slide-in-HorizontalUp.ensures
