-- `samples::plane_mode::ramp_over` meets its contract. The columns left of x, and of column x the samples above y, are put; the sums are the
-- heights of the next samples, and none leaves 32 bits. Assumes nothing.
use mathlib.Core.Path.{◌≡◌}
use mathlib.Core.List.{List}
use Prim.Native.Nat.{ℕ, ◌+◌, ◌*◌, ◌/◌, ◌%◌, ◌≤◌}
use lib.IntN.{ℤ}
use lib.ListN.{length}
use Rattle.laws.proofs.Columns.{columns}
use Rattle.samples.specs.PlaneMode.{ramp}
use Rattle.samples.proofs.PlaneMode.{rd}
use Rattle.samples.proofs.Ramp.{rise, lift, height}
use Rattle.samples.proofs.plane_mode.ramp_over.Given as goal

-- the sample at place i of the block
abbrev put : ℕ → ℕ → ℤ → ℤ → ℤ → ℕ → ℕ
put n o a b c i = ramp o a b c (i % n) (i / n)

-- `l.initial.out` is the block as the column finds it
abbrev pub invariant-loop-y : goal.invariant-loop-y
invariant-loop-y l = (l.at ≡ height l.o (rd l.s.a) (rd l.s.b) (rd l.s.c) l.x l.y)
    × ((old : List ℕ) → l.n * l.n ≤ length old → l.initial.out ≡ columns l.n (put l.n l.o (rd l.s.a) (rd l.s.b) (rd l.s.c)) old (l.x * l.n)
    → l.out ≡ columns l.n (put l.n l.o (rd l.s.a) (rd l.s.b) (rd l.s.c)) old (l.x * l.n + l.y))

abbrev pub invariant-loop-x : goal.invariant-loop-x
invariant-loop-x l = (l.rise ≡ rise l.o (rd l.s.a) (rd l.s.b) (rd l.s.c) l.x) × (l.lift ≡ lift l.o (rd l.s.a) (rd l.s.b) (rd l.s.c))
    × (l.out ≡ columns l.n (put l.n l.o (rd l.s.a) (rd l.s.b) (rd l.s.c)) l.initial.out (l.x * l.n))
