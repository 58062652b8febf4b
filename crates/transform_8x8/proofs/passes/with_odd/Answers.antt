-- `transform_8x8::passes::with_odd` meets its contract: it is `with_list` of the odd places. Assumes nothing.
use mathlib.Core.Path.{ap, ◌∙◌}
use mathlib.Core.Bool.{◌&&◌}
use mir.Facts.{to_z-of_z}
use Rattle.laws.specs.Table.{all_below}
use Rattle.numbers.specs.Numbers.{held}
use Rattle.numbers.proofs.Far.{near_each}
use Rattle.transform_8x8.specs.inner.Told.{odd_of}
use borrow.Author.Rules.{sfits_of}
use Rattle.transform_8x8.proofs.passes.with_odd.Goals as goal

pub returns : goal.returns
unfolding all_below
returns c = let odd = simp (to_z-of_z, sfits_of, c.with_list-arg-1.given, c.with_list-arg-2-1.given, c.with_list-arg-3-1.given, c.with_list-arg-4-1.given) at (c.with_list.ensures 15) in
    odd ∙ ap (λ t. held c.args.x && t) (near_each (odd_of c.args.e))
