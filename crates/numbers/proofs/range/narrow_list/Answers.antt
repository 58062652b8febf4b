-- `numbers::range::narrow_list` meets its contract: each number has sixteen bits. Assumes nothing.
use mathlib.Core.Path.{◌≡◌, refl, ap, ◌∙◌}
use mathlib.Core.Bool.{true}
use mathlib.Core.List.{List}
use Prim.Native.Nat.{ℕ}
use native.Mathlib.Omega.{arith}
use lib.IntN.{ℤ, pos}
use mir.Syntax.{w16, w32}
use mir.Val.{SFits, to_z, of_z}
use Rattle.std.proofs.lemmas.Int.{ints, to_z-of_z}
use Rattle.laws.specs.Range.{at}
use Rattle.laws.proofs.Tables.{filled_more, filled_copy}
use Rattle.numbers.specs.Numbers.{all_in_range}
use Rattle.numbers.proofs.InRange.{all_at, in_range_short}
use Rattle.numbers.proofs.range.narrow_list.Goals as goal

-- number k has sixteen bits, and is what the machine reads
short : (s : List ℤ) (k : ℕ) → all_in_range s ≡ true → SFits w16 (at s k) × (to_z w32 (of_z w32 (at s k)) ≡ at s k)
short s k e = let h = in_range_short (at s k) (all_at s k e) in (h, omega (arith, ints, h))

pub overflow_cast-out : goal.overflow_cast-out
overflow_cast-out c = let h = short c.args.list.now c.loop-k.k c.requires.1 in rw h.1 h.0

pub loop-k-preserved : goal.loop-k-preserved
loop-k-preserved c = let h = short c.args.list.now c.loop-k.k c.requires.1 in
    filled_more (pos 0) _ _ _ _ _ (omega arith) c.loop-k.invariant (ap (λ z. to_z w16 (of_z w16 z)) h.1 ∙ to_z-of_z w16 _ h.0)

pub returns : goal.returns
returns c = filled_copy (pos 0) c.args.list.now _ c.loop-k.k c.loop-k.out (omega arith) refl c.loop-k.invariant
