-- Steps that are taken in a fixed order.
use Rattle.std.specs.Prelude.{ℕ, zero, suc}

-- what steps 0, 1, .., n - 1 make of m, one after the other
unfoldable pub up_to : {M : Type 0} → (ℕ → M → M) → ℕ → M → M
up_to step zero m = m
up_to step (suc n) m = step n (up_to step n m)
