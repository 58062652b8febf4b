-- `numbers::range::widen_all` meets its contract: all numbers are copied after the loop. Assumes nothing.
use mathlib.Core.Path.{refl}
use native.Mathlib.Omega.{arith}
use lib.IntN.{pos}
use Rattle.laws.proofs.Tables.{filled_copy}
use Rattle.numbers.proofs.range.widen_all.Goals as goal

pub returns-clause-out_after : goal.returns-clause-out_after
returns-clause-out_after c = filled_copy (pos 0) c.args.list.now _ c.loop-k.k c.loop-k.out (omega arith) refl c.loop-k.invariant
