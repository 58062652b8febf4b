-- `numbers::reach::reach` meets its contract. Assumes nothing.
use mathlib.Core.Path.{ap, ◌∙◌}
use Prim.Native.Nat.{◌^◌}
use lib.Dec.{ltb}
use mir.Syntax.{w32}
use mir.Val.{SFits}
use borrow.Author.Rules.{rules}
use Rattle.std.proofs.lemmas.Int.{to_z-of_z}
use Rattle.laws.specs.Range.{at}
use Rattle.laws.proofs.Tests.{all_start, all_after}
use Rattle.numbers.specs.Numbers.{mag_and}
use Rattle.numbers.proofs.Far.{or_below}
use Rattle.numbers.proofs.reach.reach.Goals as goal

pub loop-v-init : goal.loop-v-init
loop-v-init g c = λ k. all_start _ _

pub loop-v-preserved : goal.loop-v-preserved
loop-v-preserved g c = let s = c.args.s.now in
    let f : SFits w32 (at s c.loop-v.v-index) = search rules in
    let m = simp to_z-of_z at c.mag-reach.ensures in
    λ k. or_below k c.loop-v.reach c.mag-reach.result
    ∙ all_after (ltb c.loop-v.reach (2 ^ k)) (ltb c.args.x (2 ^ k)) _ c.loop-v.v-index (λ j. ltb (mag_and g.row.MORE (at s j)) (2 ^ k)) (c.loop-v.invariant k) (ap (λ m. ltb m (2 ^ k)) m)
