-- Plane prediction, clauses 8.3.3.4 and 8.3.4.4, over half the block's side, m, and the factor k: 8 and 5 for 16x16 luma, 4 and 34 for chroma.
-- `shr_z z (2 ^ n)` is z >> n, which rounds down.
use Rattle.std.specs.Prelude.{ℕ, ◌+◌, ◌-◌, ◌*◌, ℤ, pos, ◌+ℤ◌, ◌-ℤ◌, ◌*ℤ◌}
use Rattle.std.specs.Int.Signed.{shr_z}
use Rattle.laws.specs.Table.{sum_z}
use Rattle.basics.specs.Clip.{Clip1}
use Rattle.basics.specs.Near.{Near}

-- H and V: the sum over i = 0..m - 1 of ( i + 1 ) * ( s[ m + i ] - s[ m - 2 - i ] ), where the line s begins at -1
unfoldable pub slope : ℕ → (ℕ → ℕ) → ℤ
slope m s = sum_z m (λ i. pos (i + 1) *ℤ (pos (s (m + 1 + i)) -ℤ pos (s (m - 1 - i))))

-- b and c: ( k * H + 32 ) >> 6
abbrev pub gradient : ℕ → ℤ → ℤ
gradient k h = shr_z (pos k *ℤ h +ℤ pos 32) 64

-- Clip1( ( a + b * ( x - o ) + c * ( y - o ) + 16 ) >> 5 )
unfoldable pub ramp : ℕ → ℤ → ℤ → ℤ → ℕ → ℕ → ℕ
ramp o a b c x y = Clip1 (shr_z (a +ℤ b *ℤ (pos x -ℤ pos o) +ℤ c *ℤ (pos y -ℤ pos o) +ℤ pos 16) 32)

unfoldable pub plane : ℕ → ℕ → Near → ℕ → ℕ → ℕ
plane m k p =
    ramp (m - 1) (pos 16 *ℤ (pos (p 0 (2 * m)) +ℤ pos (p (2 * m) 0))) (gradient k (slope m (λ i. p i 0))) (gradient k (slope m (λ j. p 0 j)))
