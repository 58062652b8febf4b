-- `turn_count::late::RowAbove::late_between` meets its contract: the columns up to x are put, and the last one stays. Assumes nothing.
use Rattle.std.proofs.Common.{ℕ, ◌+◌, ◌-◌, ◌≤◌, ◌<◌, max, get_or, arith, ◌∙◌}
use mathlib.Core.Path.{ap₂}
use Rattle.laws.proofs.Digits.{pred_mul}
use Rattle.turn_count.specs.declared.late.RowAbove.{RowAbove}
use Rattle.turn_count.proofs.Lateness.{late_small}
use Rattle.turn_count.proofs.Rows.{above_three, columns_none, columns_more, columns_all}
use Rattle.turn_count.proofs.late.RowAbove.late_between.Goals as goal

pub loop-x-init : goal.loop-x-init
loop-x-init c = let m = c.args.self.map in columns_none m.w m.slices.now c.args.self.y c.args.above.now c.requires

-- what the row above holds is small
few : (s : RowAbove) (i : ℕ) → i < s.map.w → get_or s.late.now i 0 ≤ 134
few s i l = omega (arith, s.is_late.is i l, late_small s.map.w s.map.slices.now i (s.y - 1) l, s.inside, s.map.fits.size.most_h)

pub overflow_add-late : goal.overflow_add-late
overflow_add-late c = omega (arith, few c.args.self c.loop-x.x (omega arith))

pub overflow_add-late-in-loop-x : goal.overflow_add-late-in-loop-x
overflow_add-late-in-loop-x c = omega (arith, few c.args.self (c.loop-x.x + 1) (omega arith))

pub loop-x-preserved : goal.loop-x-preserved
loop-x-preserved c = let s = c.args.self in
    let m = s.map in
    let l = c.loop-x in
    let in_w : l.x + 1 < m.w = omega arith in
    columns_more m.w m.slices.now s.y l.x c.max-in-loop-x.result l.above in_w m.fits.size.most_w
    (c.max-in-loop-x.ensures ∙ ap₂ max c.if_so-b.ensures (c.max.ensures ∙ ap₂ max c.if_so-c.ensures c.if_so-d.ensures)
    ∙ above_three m.w m.slices.now s.y l.x s.late.now (omega arith) s.is_late (omega arith) in_w s.below_first _ _ (omega (arith, pred_mul s.y m.w s.below_first)) (omega arith))
    l.invariant

pub returns : goal.returns
returns c = let m = c.args.self.map in
    let l = c.loop-x in
    columns_all m.w m.slices.now c.args.self.y l.x l.above (omega arith) l.invariant
