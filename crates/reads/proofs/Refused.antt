-- An 8x8 mode that is not permitted reads no group, by the parts of its set. Assumes nothing.
use mathlib.Core.Path.{◌≡◌, ap}
use mathlib.Core.Bool.{Bool, false, not, ◌&&◌, ◌||◌}
use Prim.Native.Nat.{ℕ}
use lib.Dec.{eqb}
use Rattle.reads.specs.Groups.{Group, named_nxn}
use Rattle.reads.specs.Groups.Group.{above, left, corner, above_right}
use Rattle.reads.specs.Exactly.{luma8x8, permits}

pub none_8x8 : (marks : (Group → Bool)) (m : ℕ) (k : Group) → permits luma8x8 marks m ≡ false → luma8x8.reads marks m k ≡ false
none_8x8 marks m above e = ap (λ b. b && named_nxn m above && marks above) e
none_8x8 marks m left e = ap (λ b. b && named_nxn m left && marks left) e
none_8x8 marks m corner e = ap (λ b. ((b && named_nxn m above && marks above) || (b && named_nxn m left && marks left)) && marks corner) e
none_8x8 marks m above_right e = ap (λ b. (b && named_nxn m above && marks above) && not (eqb m 6) && marks above_right) e
