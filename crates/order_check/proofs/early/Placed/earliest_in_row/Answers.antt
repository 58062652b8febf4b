-- `order_check::early::Placed::earliest_in_row` meets its contract: a row is its two ends and what stands between them. Assumes nothing.
use Rattle.std.proofs.Common.{min, sym, ap, subst, ◌∙◌}
use Rattle.order_check.specs.inner.Places.{Least, EarlyBetween}
use Rattle.order_check.proofs.Least.{between_ends}
use Rattle.order_check.proofs.early.Placed.earliest_in_row.Goals as goal

pub returns : goal.returns
returns c = let s = c.args.self in
    subst (Least (EarlyBetween s.map.w s.map.slices.now s.places.now c.args.y 0 s.map.w))
    (sym (c.min-2.ensures ∙ ap (min c.earliest_between-inner.result) c.min.ensures))
    (between_ends s.map.w s.map.slices.now s.places.now c.args.y c.earliest_between-inner.result c.early_at-left.result c.early_at-right.result
    s.map.fits.size.some_w c.earliest_between-inner.ensures c.early_at-left.ensures c.early_at-right.ensures)
