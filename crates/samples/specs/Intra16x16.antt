-- Intra 16x16 luma prediction, clause 8.3.3.
use Rattle.std.specs.Prelude.{Bool, cond, ℕ, eqb}
use Rattle.basics.specs.Near.{Near, vertical, horizontal, dc}
use Rattle.samples.specs.PlaneMode.{plane}

-- pred_l[ x, y ] in each mode of Table 8-4: 0 vertical, 1 horizontal, 2 DC, 3 plane
unfoldable pub pred_l : ℕ → Bool → Bool → Near → ℕ → ℕ → ℕ
pred_l mode above left p x y =
    cond (eqb mode 0) (vertical p x y)
    (cond (eqb mode 1) (horizontal p x y)
    (cond (eqb mode 2) (dc 16 above left p)
    (plane 8 5 p x y)))
