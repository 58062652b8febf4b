-- What the predictions of a whole 16x16 luma or 8x8 chroma block read, clauses 8.3.3 and 8.3.4.
use Rattle.std.specs.Prelude.{◌≡◌, Bool, true, ℕ, ◌<◌}
use Rattle.basics.specs.Marks.{permitted16x16, permitted_chroma}
use Rattle.basics.specs.Near.{Near, Agree}
use Rattle.samples.specs.Intra16x16.{pred_l}
use Rattle.samples.specs.IntraChroma.{pred_c}

-- a permitted mode reads no sample of an absent side: neighbourhoods that agree on the sides that are there predict the same
pub record WholePromise : Type 0 where
  pub luma : (mode : ℕ) (above left corner : Bool) (p q : Near) → permitted16x16 above left corner mode ≡ true → Agree 16 16 above left corner p q
      → (x y : ℕ) → x < 16 → y < 16 → pred_l mode above left p x y ≡ pred_l mode above left q x y
  pub chroma : (mode : ℕ) (above left corner : Bool) (p q : Near) → permitted_chroma above left corner mode ≡ true → Agree 8 8 above left corner p q
      → (x y : ℕ) → x < 8 → y < 8 → pred_c mode above left p x y ≡ pred_c mode above left q x y
