-- The samples beside a block by their places in the lists that were handed over. Assumes nothing.
use mathlib.Core.Path.{◌≡◌}
use mathlib.Core.List.{List}
use Prim.Native.Nat.{ℕ, ◌+◌, ◌-◌}
use native.Mathlib.Omega.{arith}
use borrow.Author.Tests.{ne_eqb}
use lib.ListN.{get_or}
use Rattle.basics.specs.Near.{near}

module _ (top left : List ℕ) (corner : ℕ) where
  pub near_above : (i k : ℕ) → k ≡ i + 1 → get_or top i 0 ≡ near top left corner k 0
  unfolding near
  near_above i k e = let z : k - 1 ≡ i = omega arith in rw (ne_eqb k 0 (omega arith), z)

  pub near_left : (j k : ℕ) → k ≡ j + 1 → get_or left j 0 ≡ near top left corner 0 k
  unfolding near
  near_left j k e = let z : k - 1 ≡ j = omega arith in rw (ne_eqb k 0 (omega arith), z)
