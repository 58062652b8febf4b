-- `turn_count::count::count_turns` meets its contract: the number of turns is when the last macroblock is due. Assumes nothing.
use Rattle.std.proofs.Common.{◌≡◌, ◌+◌, ◌-◌, sym, ◌∙◌}
use Rattle.maps.specs.declared.slice_map.SliceMap.{SliceMap}
use Rattle.turn_count.specs.Count.{turn_count}
use Rattle.turn_count.specs.Due.{latest}
use Rattle.turn_count.specs.inner.Late.{late}
use Rattle.turn_count.proofs.After.{count_last}
use Rattle.turn_count.proofs.Lateness.{latest_late}
use Rattle.turn_count.proofs.count.count_turns.Goals as goal

-- how late the latest row is, on top of the columns
counted : (m : SliceMap) → m.w + latest m.h (λ y. late m.w m.slices.now (m.w - 1) y) ≡ turn_count m.w m.h m.slices.now
counted m =
    let s = m.fits.size in sym (count_last m.w m.h m.slices.now s ∙ latest_late m.w m.h m.slices.now s.some_w s.some_h)

pub returns-clause-turns : goal.returns-clause-turns
returns-clause-turns c = let e = c.in_ok-map.ensures.map in cc (c.latest_row.ensures, counted c.in_ok-map.map, e.0, e.1, e.2)
