-- `order_check::check::check_order` meets its contract: the list's end is told exactly where all entries are in place. Assumes nothing.
use Rattle.order_check.proofs.Told.{end_told}
use Rattle.order_check.proofs.check.check_order.Goals as goal

pub returns-clause-verdict : goal.returns-clause-verdict
returns-clause-verdict c = let a = c.args in end_told a.w a.h a.slices.now a.order.now c.in_ok-place.place c.in_ok-place.ensures.place
