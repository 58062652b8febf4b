-- `residual::blocks::mark_of` meets its contract, by its tests. Assumes nothing.
use mathlib.Core.Path.{◌≡◌, sym, ap, ap₂, ◌∙◌}
use mathlib.Core.Bool.{Bool, false, cond}
use lib.Dec.{ltb}
use borrow.Author.Tests.{lt-ltb, le-ltb}
use borrow.Author.Rules.{rules}
use Rattle.numbers.specs.Numbers.{is_zero}
use Rattle.numbers.proofs.Far.{zero_bits, some_bits}
use Rattle.residual.proofs.blocks.mark_of.Goals as goal
use Rattle.residual.proofs.blocks.mark_of.Goals.{Else-any-eq0}

-- some number is other than 0
some : (c : Else-any-eq0) → is_zero c.args.any ≡ false
some c = sym (zero_bits c.args.any (search rules)) ∙ some_bits _ c.if-any-eq0.false

pub returns-then-any-eq0 : goal.returns-then-any-eq0
returns-then-any-eq0 c = sym (ap (λ t. cond t 0 (cond (ltb c.args.reach 2048) 1 2)) (sym (zero_bits c.args.any (search rules)) ∙ ap (λ n. ltb n 1) c.if-any-eq0.true))

pub returns-then-reach-lt2048 : goal.returns-then-reach-lt2048
returns-then-reach-lt2048 c = sym (ap₂ (λ (t s : Bool). cond t 0 (cond s 1 2)) (some c.before) (lt-ltb _ _ c.if-reach-lt2048.true))

pub returns-else-reach-lt2048 : goal.returns-else-reach-lt2048
returns-else-reach-lt2048 c = sym (ap₂ (λ (t s : Bool). cond t 0 (cond s 1 2)) (some c.before) (le-ltb _ _ c.if-reach-lt2048.false))
