-- `cut::kind::Kind::sides_at` meets its contract: a kind has as many blocks as it uses modes. Assumes nothing.
use Prim.Native.Nat.{ℕ, ◌<◌}
use native.Mathlib.Omega.{arith}
use borrow.Author.Tests.{lt-ltb}
use Rattle.maps.specs.Neighbours.{marks_of}
use Rattle.cut.specs.Cut.{cut_for, used}
use Rattle.cut.specs.Kind.{kind_number}
use Rattle.cut.proofs.ByKind.{scan_for, across_few, used_is}
use Rattle.cut.proofs.Sides.{sides_are}
use Rattle.cut.proofs.kind.Kind.sides_at.Goals as goal

pub returns-then-k-used_modes : goal.returns-then-k-used_modes
returns-then-k-used_modes c = let a = c.args in
    let n : ℕ = kind_number a.self in
    let l : a.k < used n = omega (arith, c.used_modes.ensures, c.if-k-used_modes.true) in
    let h = (scan_for n).x_lt a.k (omega (arith, used_is n)) in
    rw (lt-ltb a.k (used n) l, c.sides_of.ensures, c.across.ensures) (sides_are (cut_for n).across a.k (marks_of a.marks) h (across_few n))
