-- Clause 5.7: Min, Max, and Clip1 of 8-bit samples.
use Rattle.std.specs.Prelude.{cond, ℕ, ℤ, pos, nat_abs}
use Rattle.std.specs.Int.Signed.{lt_z}

-- Min( x, y ): x if x <= y, else y
abbrev pub Min : ℤ → ℤ → ℤ
Min x y = cond (lt_z y x) y x

-- Max( x, y ): x if x >= y, else y
abbrev pub Max : ℤ → ℤ → ℤ
Max x y = cond (lt_z x y) y x

-- Clip3( 0, 255, v ): 0 if v < 0, 255 if v > 255, else v
unfoldable pub Clip1 : ℤ → ℕ
Clip1 v = cond (lt_z v (pos 0)) 0 (cond (lt_z (pos 255) v) 255 (nat_abs v))
