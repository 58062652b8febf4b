-- `turn_count::count::latest_row` meets its contract: after y rows the number is the latest of these rows. Assumes nothing.
use Rattle.std.proofs.Common.{◌≡◌, ◌+◌, ◌-◌, arith, subst, ◌∙◌}
use Rattle.turn_count.specs.inner.Late.{late, LateRow}
use Rattle.turn_count.proofs.Latest.{latest_more}
use Rattle.turn_count.proofs.Rows.{row_first, latest_first}
use Rattle.turn_count.proofs.count.latest_row.Goals as goal

pub loop-y-init : goal.loop-y-init
loop-y-init c = let m = c.args.map in
    record { last = latest_first m.w m.slices.now m.fits.size.some_w; above = row_first m.w m.slices.now m.fits.size.most_w }

pub loop-y-preserved : goal.loop-y-preserved
loop-y-preserved c = let m = c.args.map in
    let l = c.loop-y in
    let q : l.y ≡ l.y + 1 - 1 = omega arith in
    record {
      last = c.max-last.ensures ∙ latest_more l.y (λ y. late m.w m.slices.now (m.w - 1) y) l.last c.late_row-end.result l.invariant.last c.late_row-end.ensures.last;
      above = subst (λ y. LateRow m.w m.slices.now y c.late_row-end.new.row) q c.late_row-end.ensures.row;
    }
