-- `numbers::reach::any_of` meets its contract. Assumes nothing.
use mathlib.Core.Path.{sym, ◌∙◌}
use native.Mathlib.Omega.{arith}
use lib.Dec.{ltb}
use lib.Bits.{or_lt}
use mir.Facts.{Fits-of_z}
use mir.Syntax.{w32}
use mir.Val.{SFits, of_z}
use Rattle.laws.specs.Range.{at}
use Rattle.laws.proofs.Tests.{all_start, all_after}
use Rattle.numbers.specs.Numbers.{is_zero}
use borrow.Author.Rules.{rules}
use Rattle.numbers.proofs.Far.{or_below, zero_bits, bits_zero}
use Rattle.numbers.proofs.reach.any_of.Goals as goal

pub loop-v-init : goal.loop-v-init
loop-v-init c = all_start _ _

pub loop-v-preserved : goal.loop-v-preserved
loop-v-preserved c = let s = c.args.s.now in
    let z = at s c.loop-v.v-index in
    let f : SFits w32 z = search rules in
    let l = or_lt 32 c.loop-v.any-bits (of_z w32 z) (omega arith) (Fits-of_z f).fits in
    bits_zero _ l ∙ or_below 0 c.loop-v.any-bits (of_z w32 z)
    ∙ all_after (ltb c.loop-v.any-bits 1) _ _ c.loop-v.v-index (λ k. is_zero (at s k)) (sym (bits_zero c.loop-v.any-bits (omega arith)) ∙ c.loop-v.invariant) (zero_bits z f)
