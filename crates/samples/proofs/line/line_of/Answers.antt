-- `samples::line::line_of` meets its contract. The corner is put first; after i turns the i places after it are the side's. Assumes nothing.
use mathlib.Core.Path.{◌≡◌, refl, ◌∙◌}
use Prim.Native.Nat.{ℕ, ◌+◌, ◌-◌}
use native.Mathlib.Omega.{arith}
use borrow.Author.Tests.{ne_eqb}
use lib.ListN.{replicate}
use Rattle.laws.proofs.Ontos.{onto_none, onto_next, onto_more}
use Rattle.samples.specs.inner.Line.{sample, line}
use Rattle.samples.proofs.line.line_of.Goals as goal

-- past the corner the line is the side
after : (corner : ℕ) (side : ℕ → ℕ) (i : ℕ) → side i ≡ line corner side (i + 1)
after corner side i = let k : i + 1 - 1 ≡ i = omega arith in rw (ne_eqb (i + 1) 0 (omega arith), k)

pub loop-i-init : goal.loop-i-init
loop-i-init c = onto_next 0 1 _ (replicate 17 0) refl (omega arith) (onto_none _ _) refl

pub loop-i-preserved : goal.loop-i-preserved
loop-i-preserved c = onto_more (c.loop-i.i + 1) _ (replicate 17 0) c.loop-i.e (omega arith) c.loop-i.invariant (c.get.ensures ∙ after c.args.corner (sample c.args.side) c.loop-i.i)
