-- `turn_list::turn::may_start` meets its contract: it asks `maps` for the marks, and whether those that are marked are done. Assumes nothing.
use mathlib.Core.Path.{ap, ◌∙◌}
use native.Mathlib.Omega.{arith}
use borrow.Author.Tests.{lt-ltb}
use Rattle.maps.specs.Done.{all_settled}
use Rattle.turn_list.proofs.turn.may_start.Goals as goal

pub returns-then-x-w : goal.returns-then-x-w
returns-then-x-w c = let a = c.args in
    rw (lt-ltb a.x a.map.w (omega arith)) (c.ready.ensures ∙ ap (λ m. all_settled a.map.w a.x a.y m a.done.now) (c.marks_at.ensures.inside (record { in_w = omega arith; in_h = c.requires })))
