-- `order_check::early::Placed::early_in_first_row` meets its contract: of the four neighbours only the one on the left can lie in the picture. Assumes nothing.
use mathlib.Core.Bool.{or-false}
use native.Mathlib.Nat.{zero-mul, zero-add}
use Rattle.order_check.specs.inner.Places.{if_early}
use Rattle.order_check.proofs.early.Placed.early_in_first_row.Goals as goal

pub returns : goal.returns
unfolding if_early
returns c = simp (zero-mul, zero-add, or-false) (simp (c.saturating_sub-left.ensures) at c.place_if.ensures)
