-- Clip1 and clipped sums, as the machine computes them. Assumes nothing.
use mathlib.Core.Path.{◌≡◌, ap, ◌∙◌}
use mathlib.Core.Bool.{Bool, true, false, cond}
use lib.IntN.{ℤ, ◌+ℤ◌}
use lib.Signed.{lt_z}
use mir.Syntax.{w32}
use mir.Val.{SFits, to_z, of_z}
use mir.ValLaws.{to_z-of_z}
use Rattle.laws.specs.Range.{Within}
use Rattle.laws.proofs.Ints.{ints}
use Rattle.basics.specs.Clip.{Min, Max, Clip1}

-- the lesser of `high` and the greater of v and `low`, as the machine reads them back
pub bounded_is : (v low high : ℤ) → SFits w32 v → SFits w32 low → SFits w32 high
    → {m z : ℤ} → m ≡ Max (to_z w32 (of_z w32 v)) low → z ≡ Min (to_z w32 (of_z w32 m)) high → to_z w32 (of_z w32 z) ≡ Min (Max v low) high
bounded_is v low high f g h {m} {z} e k =
    let big : SFits w32 (Max v low) = either (lt_z v low) g f in
    let n : to_z w32 (of_z w32 m) ≡ Max v low = ap (λ y. to_z w32 (of_z w32 y)) (e ∙ ap (λ y. Max y low) (to_z-of_z w32 v f)) ∙ to_z-of_z w32 (Max v low) big in
    ap (λ y. to_z w32 (of_z w32 y)) (k ∙ ap (λ y. Min y high) n) ∙ to_z-of_z w32 (Min (Max v low) high) (either (lt_z high (Max v low)) h big)
  where
    either : (t : Bool) {x y : ℤ} → SFits w32 x → SFits w32 y → SFits w32 (cond t x y)
    either true p q = p
    either false p q = q

-- the clipped sum of a prediction and a residual in range
pub sum_is : (p r : ℤ) → Within 32768 p → Within 32768 r → Clip1 (to_z w32 (of_z w32 (to_z w32 (of_z w32 p) +ℤ to_z w32 (of_z w32 r)))) ≡ Clip1 (p +ℤ r)
sum_is p r h g = ap Clip1 (search ints depth 20)
