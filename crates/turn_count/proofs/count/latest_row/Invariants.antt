-- `turn_count::count::latest_row` meets its contract: after y rows the number is the latest of these rows. Assumes nothing.
use Rattle.std.proofs.Common.{◌≡◌, ◌-◌}
use Rattle.turn_count.specs.Due.{latest}
use Rattle.turn_count.specs.inner.Late.{late, LateRow}
use Rattle.turn_count.proofs.count.latest_row.Given as goal

abbrev pub invariant-loop-y : goal.invariant-loop-y
invariant-loop-y l = record {
  last : l.last ≡ latest l.y (λ y. late l.map.w l.map.slices.now (l.map.w - 1) y);
  above : LateRow l.map.w l.map.slices.now (l.y - 1) l.row;
}
