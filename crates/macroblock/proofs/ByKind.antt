-- What holds of each kind beside its cut: 0, 1, and any other, which counts as 2. Assumes nothing.
use Prim.Native.Nat.{ℕ, zero, suc, ◌≤◌}
use native.Mathlib.Omega.{arith}
use Rattle.macroblock.specs.inner.Blocks.{first_for}

pub first_few : (kind : ℕ) → first_for kind ≤ 16
first_few zero = omega arith
first_few (suc zero) = omega arith
first_few (suc (suc _)) = omega arith
