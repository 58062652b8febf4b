-- How late macroblocks are: the latest of what those above make of the row so far, and never more than two turns later than the last of the row above.
-- Assumes nothing.
use mathlib.Core.Path.{◌≡◌, refl, ap, ◌∙◌}
use mathlib.Core.Bool.{true}
use mathlib.Core.List.{List}
use Prim.Native.Nat.{ℕ, zero, suc, ◌+◌, ◌*◌, ◌-◌, ◌<◌, ◌≤◌, max, zero-le}
use native.Mathlib.Numerals.{add-one}
use native.Mathlib.Omega.{arith}
use lib.Dec.{ltb}
use borrow.Author.Tests.{ltb-true, lt-ltb}
use Rattle.laws.proofs.Tests.{and_both, choose, choose_both}
use Rattle.maps.specs.Neighbours.{Side, beside_x, beside_y, in_picture, available}
use Rattle.maps.specs.Neighbours.Side.{A, B, C, D}
use Rattle.maps.proofs.Beside.{available_inside, available_at}
use Rattle.turn_count.specs.Due.{due, due_on, due_before, latest}
use Rattle.turn_count.specs.inner.Late.{late, more, late_on, late_above}
use Rattle.turn_count.proofs.Due.{recurrence, due_side, due_next, due_column, due_wave}
use Rattle.turn_count.proofs.Latest.{latest_none, latest_more, latest_upper, latest_least, latest_along}

pub more_few : (k : Side) → more k ≤ 2
more_few A = omega arith
more_few B = omega arith
more_few C = omega arith
more_few D = omega arith

module _ (w : ℕ) (slices : List ℕ) where
  due_late : (x y : ℕ) → due w slices x y ≡ late w slices x y + (x + 1)
  due_late x y = omega (arith, due_column w slices x y)

  -- ---- what a neighbour above makes of it
  side_late : (x y : ℕ) (k : Side) → in_picture w x y k ≡ true
      → due w slices (beside_x x k) (beside_y y k) ≡ late w slices (beside_x x k) (beside_y y k) + more k + x
  side_late x y A t = let l = ltb-true 0 x t in omega (arith, due_late (x - 1) y)
  side_late x y B t = omega (arith, due_late x (y - 1))
  side_late x y C t = omega (arith, due_late (x + 1) (y - 1))
  side_late x y D t = let l = ltb-true 0 x (and_both (ltb 0 y) (ltb 0 x) t).1 in omega (arith, due_late (x - 1) (y - 1))

  on_most : (x y : ℕ) (k : Side) → due_on w slices x y k ≤ late_on w slices x y k + x
  on_most x y k =
      choose_both (λ m n. m ≤ n + x) (available w slices x y k) (due w slices (beside_x x k) (beside_y y k)) 0
      (late w slices (beside_x x k) (beside_y y k) + more k) 0 (λ t. omega (arith, side_late x y k (available_inside w x y slices k t))) (λ t. zero-le)

  on_least : (x y : ℕ) (k : Side) → late_on w slices x y k ≤ late w slices x y
  on_least x y k =
      choose (λ m. m ≤ late w slices x y) (available w slices x y k) (late w slices (beside_x x k) (beside_y y k) + more k) 0
      (λ t. omega (arith, side_late x y k (available_inside w x y slices k t), due_side w slices x y k t)) (λ t. zero-le)

  above_most : (x y : ℕ) → max (due_on w slices x y B) (max (due_on w slices x y C) (due_on w slices x y D)) ≤ late_above w slices x y + x
  above_most x y = omega (arith, on_most x y B, on_most x y C, on_most x y D)

  above_least : (x y : ℕ) → late_above w slices x y ≤ late w slices x y
  above_least x y = both (late_on w slices x y B) (late_on w slices x y C) (late_on w slices x y D) (on_least x y B) (on_least x y C) (on_least x y D)
    where
      both : (b c d : ℕ) {n : ℕ} → b ≤ n → c ≤ n → d ≤ n → max b (max c d) ≤ n
      both b c d p q r = omega arith

  -- ---- so it is the latest of the row so far
  taken_off : (x d p q : ℕ) {r t : ℕ} → d ≡ 1 + max r t → x < d → r ≤ p + x → t ≤ q + x → p ≤ d - (x + 1) → q ≤ d - (x + 1) → d - (x + 1) ≡ max p q
  taken_off x d p q e l a b f g = omega arith

  late_zero : (y : ℕ) → late w slices 0 y ≡ late_above w slices 0 y
  late_zero y =
      taken_off 0 (due w slices 0 y) 0 (late_above w slices 0 y) (recurrence w slices 0 y) (due_column w slices 0 y) zero-le (above_most 0 y) zero-le
      (above_least 0 y)
      ∙ omega arith

  late_next : (x y : ℕ) → late w slices (suc x) y ≡ max (late w slices x y) (late_above w slices (suc x) y)
  late_next x y =
      let q : suc x - 1 ≡ x = omega arith in
      let e : due_before w slices (suc x) y ≡ due w slices x y = rw (lt-ltb 0 (suc x) (omega arith), q) in
      taken_off (suc x) (due w slices (suc x) y) (late w slices x y) (late_above w slices (suc x) y) (recurrence w slices (suc x) y)
      (due_column w slices (suc x) y) (omega (arith, due_late x y)) (above_most (suc x) y) (omega (arith, due_late x y, due_next w slices x y))
      (above_least (suc x) y)

  pub late_latest : (x y : ℕ) → late w slices x y ≡ latest (x + 1) (λ i. late_above w slices i y)
  late_latest zero y =
      let f : ℕ → ℕ = λ i. late_above w slices i y in
      late_zero y ∙ omega (arith, latest_more 0 f 0 (f 0) (latest_none f) refl)
  late_latest (suc x) y =
      let f : ℕ → ℕ = λ i. late_above w slices i y in
      late_next x y ∙ latest_more (suc x) f (late w slices x y) (f (suc x)) (late_latest x y ∙ ap (λ n. latest n f) (add-one x)) refl

  late_along : (i x y : ℕ) → i ≤ x → late w slices i y ≤ late w slices x y
  late_along i x y l =
      omega (arith, late_latest i y, late_latest x y, latest_along (i + 1) (x + 1) (λ j. late_above w slices j y) (omega arith))

  -- ---- bounds
  pub late_small : (x y : ℕ) → x < w → late w slices x y ≤ 2 * y
  late_small x y h = omega (arith, due_wave w slices x y h)

  on_last : (x y : ℕ) (k : Side) → x < w → beside_y y k ≡ y - 1 → late_on w slices x y k ≤ late w slices (w - 1) (y - 1) + 2
  on_last x y k h e =
      choose (λ m. m ≤ late w slices (w - 1) (y - 1) + 2) (available w slices x y k) (late w slices (beside_x x k) (beside_y y k) + more k) 0
      (λ t.
      let b = available_at w x y slices k h t in
      let l : beside_x x k ≤ w - 1 = omega (arith, b.column) in
      omega (arith, late_along (beside_x x k) (w - 1) (y - 1) l, ap (late w slices (beside_x x k)) e, more_few k)) (λ t. zero-le)

  late_most : (x y : ℕ) → x < w → late w slices x y ≤ late w slices (w - 1) (y - 1) + 2
  late_most x y h =
      omega (
        arith,
        late_latest x y,
        latest_least (x + 1) (λ i. late_above w slices i y) (late w slices (w - 1) (y - 1) + 2)
            (λ i l. omega (arith, on_last i y B (omega arith) refl, on_last i y C (omega arith) refl, on_last i y D (omega arith) refl)),
      )

  -- where the first one is as late as can be, all of the row are
  pub late_flat : (y n : ℕ) → late_above w slices 0 y ≡ n → n ≡ late w slices (w - 1) (y - 1) + 2 → (x : ℕ) → x < w → late w slices x y ≡ n
  late_flat y n e f x h = omega (arith, late_zero y, late_along 0 x y zero-le, late_most x y h)

-- ---- the number of turns by the latest row
pub latest_late : (w h : ℕ) (slices : List ℕ) → 0 < w → 0 < h → latest h (λ y. due w slices (w - 1) y) ≡ w + latest h (λ y. late w slices (w - 1) y)
latest_late w h slices hw hh = omega (arith, low, high)
  where
    end : (y : ℕ) → due w slices (w - 1) y ≡ late w slices (w - 1) y + w
    end y = due_late w slices (w - 1) y ∙ omega arith

    high : latest h (λ y. due w slices (w - 1) y) ≤ w + latest h (λ y. late w slices (w - 1) y)
    high = latest_least h (λ y. due w slices (w - 1) y) (w + latest h (λ y. late w slices (w - 1) y))
        (λ y l. omega (arith, end y, latest_upper h (λ y. late w slices (w - 1) y) y l))

    most : latest h (λ y. late w slices (w - 1) y) ≤ latest h (λ y. due w slices (w - 1) y) - w
    most = latest_least h (λ y. late w slices (w - 1) y) (latest h (λ y. due w slices (w - 1) y) - w)
        (λ y l. omega (arith, end y, latest_upper h (λ y. due w slices (w - 1) y) y l))

    low : w + latest h (λ y. late w slices (w - 1) y) ≤ latest h (λ y. due w slices (w - 1) y)
    low = omega (arith, most, end 0, latest_upper h (λ y. due w slices (w - 1) y) 0 hh)
