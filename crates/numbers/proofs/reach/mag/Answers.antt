-- `numbers::reach::mag` meets its contract, below 0 and from 0 on. Assumes nothing.
use mathlib.Core.Path.{◌∙◌, ap, sym}
use Prim.Native.Nat.{◌+◌}
use Rattle.numbers.specs.Numbers.{mag_and}
use Rattle.numbers.proofs.Far.{negative, positive, mag_below}
use Rattle.numbers.proofs.reach.mag.Goals as goal

pub returns-then-v-lt0 : goal.returns-then-v-lt0
returns-then-v-lt0 g c = (negative c.args.v c.ranges.v c.if-v-lt0.true).2 ∙ mag_below c.args.v c.ranges.v g.row.MORE c.if-v-lt0.true

pub returns-else-v-lt0 : goal.returns-else-v-lt0
unfolding mag_and
returns-else-v-lt0 g c = let p = positive c.args.v c.ranges.v c.if-v-lt0.false in
    rw c.from.ensures (ap (λ m. m + g.row.MORE) p.1.2 ∙ sym (ap (mag_and g.row.MORE) p.0))
