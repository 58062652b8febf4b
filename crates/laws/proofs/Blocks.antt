-- Blocks with the same samples.
use mathlib.Core.Path.{◌≡◌}
use Prim.Native.Nat.{ℕ, zero, suc, ◌*◌, ◌/◌, ◌%◌, ◌<◌}
use native.Mathlib.Omega.{arith}
use native.Mathlib.Nat.{mod-lt, div-lt_iff_lt-mul}
use Rattle.laws.specs.Table.{block_of}
use Rattle.laws.proofs.Tables.{table_same}

pub block_same : (n : ℕ) (f g : ℕ → ℕ → ℕ) → ((x y : ℕ) → x < n → y < n → f x y ≡ g x y) → block_of n f ≡ block_of n g
block_same n f g h = table_same (n * n) _ _ (λ i l. h (i % n) (i / n) (mod-lt i (some n i l)) ((div-lt_iff_lt-mul (some n i l)).1 l))
  where
    some : (n i : ℕ) → i < n * n → 0 < n
    some zero i l = absurd (omega arith)
    some (suc n) i l = omega arith
