-- `turn_count::late::late_row` meets its contract: where the first is as late as can be the whole row is, and else the row runs on from what those above
-- make of it. Assumes nothing.
use Rattle.std.proofs.Common.{◌+◌, ◌-◌, ◌<◌, get_or, replicate, arith, refl, sym, ap, ◌∙◌}
use Rattle.maps.specs.declared.slice_map.SliceMap.{SliceMap}
use Rattle.turn_count.proofs.Lateness.{late_small}
use Rattle.turn_count.proofs.Rows.{edges_put, row_run, row_single, row_flat}
use Rattle.turn_count.proofs.late.late_row.Goals as goal

-- the row has a last column
in_w : (m : SliceMap) → m.w - 1 < m.w
in_w m = omega (arith, m.fits.size.some_w)

pub overflow_add-most : goal.overflow_add-most
overflow_add-most c = let m = c.args.map in
    omega (arith, c.requires.2.is (m.w - 1) (in_w m), late_small m.w m.slices.now (m.w - 1) (c.args.y - 1) (in_w m), c.requires.1, m.fits.size.most_h)

pub returns-then-first-most : goal.returns-then-first-most
returns-then-first-most c = let m = c.args.map in
    let f = row_flat m.w m.slices.now c.args.y (get_or c.args.row.now (m.w - 1) 0 + 2) m.fits.size.some_w m.fits.size.most_w
    (sym c.late_at-first.ensures ∙ c.if-first-most.true) (ap (λ n. n + 2) (c.requires.2.is (m.w - 1) (in_w m))) in
    record { last = f.0; row = f.1 }

pub returns-then-w-eq1 : goal.returns-then-w-eq1
returns-then-w-eq1 c = let m = c.args.map in
    let r = row_single m.w m.slices.now c.args.y c.args.row.now c.late_at-first.result (omega (arith, c.if-w-eq1.true)) c.requires.2.long c.late_at-first.ensures in
    record { last = r.0; row = r.1 }

pub late_between-requires : goal.late_between-requires
late_between-requires c = let m = c.args.map in
    edges_put m.w m.slices.now c.args.y (replicate 120 0) c.late_at-first.result c.late_at.result refl m.fits.size.some_w m.fits.size.most_w
    c.late_at-first.ensures c.late_at.ensures

pub returns : goal.returns
returns c = let m = c.args.map in
    let r = row_run m.w m.slices.now c.args.y c.late_between.new.above c.args.row.now c.run_on.new.row c.run_on.result m.fits.size.some_w m.fits.size.most_w c.requires.2.long
    c.late_between.ensures c.run_on.ensures.row c.run_on.ensures.last in
    record { last = r.0; row = r.1 }
