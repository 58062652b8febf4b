-- The numbers a, b and c of a plane prediction.
use Rattle.std.specs.Prelude.{◌≡◌, ℕ, ◌*◌, ℤ, pos, ◌+ℤ◌, ◌*ℤ◌}
use Rattle.basics.specs.Near.{Near}
use Rattle.samples.specs.PlaneMode.{slope, gradient}

pub record Sloped (m k : ℕ) (p : Near) (a b c : ℤ) : Type 0 where
  pub a_is : a ≡ pos 16 *ℤ (pos (p 0 (2 * m)) +ℤ pos (p (2 * m) 0))
  pub b_is : b ≡ gradient k (slope m (λ i. p i 0))
  pub c_is : c ≡ gradient k (slope m (λ j. p 0 j))
