-- Where the neighbours of a macroblock stand: in the picture, at smaller addresses, and how far back. Assumes nothing.
use mathlib.Core.Path.{◌≡◌, ap}
use mathlib.Core.Bool.{true, ◌&&◌}
use mathlib.Core.List.{List}
use Prim.Native.Nat.{ℕ, ◌+◌, ◌-◌, ◌/◌, ◌%◌, ◌<◌, ◌≤◌}
use native.Mathlib.Nat.{div-add-mod', mod-lt}
use native.Mathlib.Omega.{arith}
use lib.Dec.{ltb, eqb}
use lib.ListN.{get_or, length}
use borrow.Author.Tests.{eqb-true, eq-eqb, ltb-true}
use Rattle.laws.proofs.Digits.{pred_mul}
use Rattle.laws.proofs.Tests.{and_left, and_both, and_of, and_same}
use Rattle.maps.specs.Neighbours.{Side, beside_x, beside_y, beside, in_picture, available, Adjoins, mapped, marks_at}
use Rattle.maps.specs.Neighbours.Side.{A, B, C, D}
use Rattle.maps.specs.Size.{total, address, size_ok, Size, place_ok, Stands}
use Rattle.maps.proofs.Sizes.{size_is, size_yes, place_is, place_yes}

-- how far a neighbour's address is back
abbrev pub back_of : ℕ → Side → ℕ
back_of w A = 1
back_of w B = w
back_of w C = w - 1
back_of w D = w + 1

pub record Neighbour (w x y : ℕ) (k : Side) : Type 0 where
  pub column : beside_x x k < w
  pub row : beside_y y k ≤ y
  pub back : back_of w k ≤ address w x y
  pub is : address w x y - back_of w k ≡ beside w x y k
  pub before : beside w x y k < address w x y

pub beside_at : (w x y : ℕ) → x < w → (k : Side) → in_picture w x y k ≡ true → Neighbour w x y k
beside_at w x y h A t =
    let l : 0 < x = ltb-true 0 x t in
    record { column = omega arith; row = omega arith; back = omega arith; is = omega arith; before = omega arith }
beside_at w x y h B t =
    let e = pred_mul y w (ltb-true 0 y t) in
    record { column = h; row = omega arith; back = omega arith; is = omega arith; before = omega arith }
beside_at w x y h C t =
    let u = and_both (ltb 0 y) (ltb (x + 1) w) t in
    let l : x + 1 < w = ltb-true (x + 1) w u.1 in
    let e = pred_mul y w (ltb-true 0 y u.0) in
    record { column = l; row = omega arith; back = omega arith; is = omega arith; before = omega arith }
beside_at w x y h D t =
    let u = and_both (ltb 0 y) (ltb 0 x) t in
    let l : 0 < x = ltb-true 0 x u.1 in
    let e = pred_mul y w (ltb-true 0 y u.0) in
    record { column = omega arith; row = omega arith; back = omega arith; is = omega arith; before = omega arith }

module _ (w x y : ℕ) (slices : List ℕ) (k : Side) where
  -- an available neighbour lies in the picture
  pub available_inside : available w slices x y k ≡ true → in_picture w x y k ≡ true
  available_inside t = and_left (in_picture w x y k) (eqb (get_or slices (beside w x y k) 0) (get_or slices (address w x y) 0)) t

  pub available_at : x < w → available w slices x y k ≡ true → Neighbour w x y k
  available_at h t = beside_at w x y h k (available_inside t)

  -- the test by how far it is back
  pub available_is : x < w → in_picture w x y k && eqb (get_or slices (address w x y - back_of w k) 0) (get_or slices (address w x y) 0) ≡ available w slices x y k
  available_is h = and_same (in_picture w x y k) (λ t. ap (λ a. eqb (get_or slices a 0) (get_or slices (address w x y) 0)) (beside_at w x y h k t).is)

-- available neighbours have smaller addresses
pub adjoins_before : (w : ℕ) (slices : List ℕ) (a b : ℕ) → 0 < w → Adjoins w slices a b → b < a
adjoins_before w slices a b h (k, t, is) =
    omega (arith, (available_at w (a % w) (a / w) slices k (mod-lt a h) t).before, div-add-mod' a w, is)

-- ---- the marks, where rules 1 to 3 hold
module _ (w h n x y : ℕ) where
  pub mapped_is : mapped w h n x y ≡ true → Size w h × (n ≡ total w h) × Stands w h x y
  unfolding mapped
  mapped_is e =
      let e₂ = and_both (size_ok w h && eqb n (total w h)) (place_ok w h x y) e in
      let e₁ = and_both (size_ok w h) (eqb n (total w h)) e₂.0 in
      (size_is w h e₁.0, eqb-true n (total w h) e₁.1, place_is w h x y e₂.1)

  pub mapped_yes : Size w h → n ≡ total w h → Stands w h x y → mapped w h n x y ≡ true
  unfolding mapped
  mapped_yes s l p = and_of (and_of (size_yes w h s) (eq-eqb n (total w h) l)) (place_yes w h x y p)

pub marks_at_lem : (w h : ℕ) (slices : List ℕ) (x y : ℕ) → Size w h → length slices ≡ total w h → Stands w h x y → marks_at w h slices x y ≡ available w slices x y
marks_at_lem w h slices x y s l p = ap (λ b k. b && available w slices x y k) (mapped_yes w h (length slices) x y s l p)
