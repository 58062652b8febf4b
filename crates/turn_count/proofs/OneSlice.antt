-- A picture in one slice: where all neighbours in the picture are available, the wave is exactly as late as it can be. Assumes nothing.
use mathlib.Core.Path.{◌≡◌, ap, subst, ◌∙◌}
use mathlib.Core.Bool.{true}
use mathlib.Core.List.{List}
use Prim.Native.Nat.{ℕ, zero, suc, ◌+◌, ◌*◌, ◌-◌, ◌<◌, ◌≤◌}
use native.Mathlib.Omega.{arith}
use lib.ListN.{get_or}
use borrow.Author.Tests.{lt-ltb, eq-eqb}
use Rattle.laws.proofs.Tests.{and_of}
use Rattle.maps.specs.Neighbours.{Side, beside, in_picture, available}
use Rattle.maps.specs.Neighbours.Side.{B, C}
use Rattle.maps.specs.Size.{address, Size, Stands}
use Rattle.maps.proofs.Beside.{beside_at}
use Rattle.maps.proofs.Sizes.{address_inside}
use Rattle.turn_count.specs.Count.{turn_count}
use Rattle.turn_count.specs.Due.{due}
use Rattle.turn_count.specs.HowMany.{OneSlice}
use Rattle.turn_count.proofs.After.{count_last, most}
use Rattle.turn_count.proofs.Due.{due_some, due_side, due_next, due_wave, due_address}
use Rattle.turn_count.proofs.Latest.{latest_upper, latest_least}

module _ (w h : ℕ) (slices : List ℕ) (s : Size w h) (one : OneSlice w h slices) where
  all_available : (x y : ℕ) → Stands w h x y → (k : Side) → in_picture w x y k ≡ true → available w slices x y k ≡ true
  all_available x y p k t =
      let b = beside_at w x y p.in_w k t in
      let l = address_inside w h x y p in
      and_of t (eq-eqb (get_or slices (beside w x y k) 0) (get_or slices (address w x y) 0) (one (beside w x y k) (address w x y) (omega (arith, b.before)) l))

  -- ---- two macroblocks wide or more: down the first column by those above and to the right
  first_column_lem : 2 ≤ w → (y : ℕ) → y < h → suc (2 * y) ≤ due w slices 0 y
  first_column_lem w2 zero l = omega (arith, due_some w slices 0 0)
  first_column_lem w2 (suc y) l =
      let e : suc y - 1 ≡ y = omega arith in
      let p : Stands w h 0 (suc y) = record { in_w = s.some_w; in_h = l } in
      let c = due_side w slices 0 (suc y) C (all_available 0 (suc y) p C (and_of (lt-ltb 0 (suc y) (omega arith)) (lt-ltb (0 + 1) w (omega arith)))) in
      omega (arith, first_column_lem w2 y (omega arith), due_next w slices 0 y, subst (λ j. due w slices 1 j < due w slices 0 (suc y)) e c)

  wave_least : 2 ≤ w → (x y : ℕ) → y < h → suc (x + 2 * y) ≤ due w slices x y
  wave_least w2 zero y l = omega (arith, first_column_lem w2 y l)
  wave_least w2 (suc x) y l = omega (arith, wave_least w2 x y l, due_next w slices x y)

  pub wide_due : 2 ≤ w → (x y : ℕ) → Stands w h x y → due w slices x y ≡ 1 + x + 2 * y
  wide_due w2 x y p = omega (arith, wave_least w2 x y p.in_h, due_wave w slices x y p.in_w)

  pub wide : 2 ≤ w → turn_count w h slices ≡ w + 2 * (h - 1)
  wide w2 =
      let l : h - 1 < h = omega (arith, s.some_h) in
      omega (arith, most w h slices s, count_last w h slices s, latest_upper h (λ y. due w slices (w - 1) y) (h - 1) l, wave_least w2 (w - 1) (h - 1) l)

  -- ---- a single column: down by those above
  column_least : (y : ℕ) → y < h → suc y ≤ due w slices 0 y
  column_least zero l = omega (arith, due_some w slices 0 0)
  column_least (suc y) l =
      let e : suc y - 1 ≡ y = omega arith in
      let p : Stands w h 0 (suc y) = record { in_w = s.some_w; in_h = l } in
      let b = due_side w slices 0 (suc y) B (all_available 0 (suc y) p B (lt-ltb 0 (suc y) (omega arith))) in
      omega (arith, column_least y (omega arith), subst (λ j. due w slices 0 j < due w slices 0 (suc y)) e b)

  pub narrow_due : w ≡ 1 → (y : ℕ) → y < h → due w slices 0 y ≡ 1 + y
  narrow_due w1 y l =
      let m : address w 0 y ≡ y = ap (λ i. address i 0 y) w1 ∙ omega arith in
      omega (arith, column_least y l, due_address w slices 0 y s.some_w)

  pub narrow : w ≡ 1 → turn_count w h slices ≡ h
  narrow w1 =
      let e : w - 1 ≡ 0 = omega arith in
      let l : h - 1 < h = omega (arith, s.some_h) in
      let end : (y : ℕ) → y < h → due w slices (w - 1) y ≡ 1 + y = λ y b. ap (λ i. due w slices i y) e ∙ narrow_due w1 y b in
      omega (
        arith,
        count_last w h slices s,
        latest_upper h (λ y. due w slices (w - 1) y) (h - 1) l,
        end (h - 1) l,
        latest_least h (λ y. due w slices (w - 1) y) h (λ y b. omega (arith, end y b)),
      )
