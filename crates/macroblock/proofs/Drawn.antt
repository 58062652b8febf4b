-- A block that the code predicts from the sides it found, and puts, is the definition's part of the square. For every cut and rule. Assumes nothing.
use mathlib.Core.Path.{◌≡◌, refl, ap₂, ◌∙◌}
use mathlib.Core.Bool.{Bool}
use mathlib.Core.List.{List}
use Prim.Native.Nat.{ℕ, ◌+◌, ◌*◌, ◌/◌, ◌%◌, ◌<◌}
use native.Mathlib.Omega.{arith}
use lib.Arith.{digits_div, digits_mod, digits_lt}
use lib.IntN.{ℤ, pos, ◌+ℤ◌}
use lib.ListN.{get_or}
use Rattle.laws.specs.Table.{block_of}
use Rattle.laws.proofs.Tables.{get_d_table}
use Rattle.basics.specs.Clip.{Clip1}
use Rattle.basics.specs.Near.{Near}
use Rattle.maps.specs.Neighbours.{Side}
use Rattle.macroblock.specs.declared.place.Place.{Place}
use Rattle.basics.specs.declared.marks.Sides.{Sides}
use Rattle.cut.specs.Cut.{Cut, scan_x, scan_y, is_there, sides_of, square_sides}
use Rattle.macroblock.specs.Square.{place_of, put_block, near_block, part}
use Rattle.macroblock.proofs.Pieces.{put_same}

module _ (c : Cut) (predict : ℕ → Sides → Near → ℕ → ℕ → ℕ) (residual : ℕ → ℕ → ℕ → ℤ) (p : Place) (marks : Side → Bool) (k : ℕ) (some : 0 < c.side)
    {block : Place} {sides : Sides} (stands : block ≡ place_of c.across p k) (there : sides ≡ sides_of c.across marks k) where
  -- the prediction, read back sample by sample, and residuals that are the definition's there
  pub part_drawn : (off : ℕ → ℕ → ℕ) (r : ℕ → ℕ → ℤ) (plane : List ℕ) {pred out : List ℕ} → pred ≡ block_of c.side (predict k sides (near_block c.side block plane sides c.wide))
      → ((x y : ℕ) → off x y ≡ y * c.side + x) → ((x y : ℕ) → x < c.side → y < c.side → r x y ≡ residual k x y)
      → out ≡ put_block c.side block (λ x y. Clip1 (pos (get_or pred (off x y) 0) +ℤ r x y)) plane
      → out ≡ part c (λ k sides near x y. Clip1 (pos (predict k sides near x y) +ℤ residual k x y)) p.stride p.column p.row marks k plane
  part_drawn off r plane e at same o =
      let q = c.side in
      let f = predict k sides (near_block q block plane sides c.wide) in
      o
      ∙ put_same q block _ (λ x y. Clip1 (pos (f x y) +ℤ residual k x y)) plane some
      (λ x y hx hy. ap₂ (λ n z. Clip1 (pos n +ℤ z))
      (ap₂ (λ l n. get_or l n 0) e (at x y) ∙ get_d_table 0 (q * q) (λ k. f (k % q) (k / q)) (y * q + x) (digits_lt hy hx) ∙ ap₂ f (digits_mod y hx) (digits_div y hx)) (same x y hx hy))
      ∙ (λ i. put_block q (stands i) (λ x y. Clip1 (pos (predict k (there i) (near_block q (stands i) plane (there i) c.wide) x y) +ℤ residual k x y)) plane)

-- ---- a macroblock that is one block
pub whole_sides : (marks : Side → Bool) → square_sides marks ≡ sides_of 1 marks 0
unfolding is_there scan_x scan_y
whole_sides marks = refl

pub whole_place : (p : Place) → p ≡ place_of 1 p 0
unfolding scan_x scan_y
whole_place p = λ i. record { stride = p.stride; row = row_is i; column = column_is i }
  where
    row_is : p.row ≡ p.row * 1 + 0
    row_is = omega arith

    column_is : p.column ≡ p.column * 1 + 0
    column_is = omega arith
