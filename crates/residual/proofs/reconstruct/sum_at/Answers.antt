-- `residual::reconstruct::sum_at` meets its contract: the sum of what stands at both places. Assumes nothing.
use Prim.Native.Nat.{◌+◌}
use mir.Facts.{to_z-of_z}
use borrow.Author.Rules.{rules}
use mir.Syntax.{w16}
use mir.Val.{SFits}
use Rattle.laws.specs.Range.{at}
use Rattle.residual.proofs.reconstruct.sum_at.Goals as goal

pub returns : goal.returns
returns c = let f : SFits w16 (at c.args.res.now (c.args.k + c.args.x)) = search rules in simp to_z-of_z at c.sum_of.ensures
