-- A lone coefficient at place 0 gives 64 equal residuals, and is in range exactly where it is so after the second pass.
use Rattle.std.specs.Prelude.{◌≡◌, List, ◌∷◌, ℤ, pos, replicate}
use Rattle.numbers.specs.Numbers.{last_in_range}
use Rattle.residual.specs.Inverse.{rounded}
use Rattle.transform_8x8.specs.Inverse8x8.{inverse8x8, in_range8x8}

abbrev pub lone : ℤ → List ℤ
lone v = v ∷ replicate 63 (pos 0)

pub record Flat : Type 0 where
  pub flat : (v : ℤ) → inverse8x8 (lone v) ≡ replicate 64 (rounded v)
  -- -32768..32735
  pub lone_range : (v : ℤ) → in_range8x8 (lone v) ≡ last_in_range v
