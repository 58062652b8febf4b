-- A block of which no number but the first is other than 0.
use Rattle.std.specs.Prelude.{◌≡◌, List, ℕ, ◌<◌, ℤ, pos}
use Rattle.laws.specs.Range.{at}

pub record OnlyFirst (d : List ℤ) : Type 0 where
  pub rest : (i : ℕ) → 0 < i → i < 64 → at d i ≡ pos 0
