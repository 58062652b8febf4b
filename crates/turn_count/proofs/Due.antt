-- The recurrence of when a macroblock is due, as what it waits for, and what bounds it. Assumes nothing.
use mathlib.Core.Path.{◌≡◌, refl, sym, ap, ◌∙◌}
use mathlib.Core.Bool.{Bool, true, false, cond}
use mathlib.Core.List.{List}
use Prim.Native.Nat.{ℕ, zero, suc, ◌+◌, ◌*◌, ◌-◌, ◌<◌, ◌≤◌, max, zero-le}
use native.Mathlib.Nat.{not-suc-le-zero, le_refl}
use native.Mathlib.Decide.{dec_lt}
use native.Mathlib.Omega.{arith}
use lib.Dec.{ltb}
use borrow.Author.Tests.{ltb-true, lt-ltb}
use Rattle.laws.proofs.Tests.{and_both, choose}
use Rattle.maps.specs.Neighbours.{Side, beside_x, beside_y, in_picture, available}
use Rattle.maps.specs.Neighbours.Side.{A, B, C, D}
use Rattle.maps.specs.Size.{address}
use Rattle.maps.proofs.Beside.{available_inside, available_at}
use Rattle.turn_count.specs.Due.{latest_above, due_in_row, due, due_on, due_before}

module _ (w : ℕ) (slices : List ℕ) where
  -- ---- the recurrence
  abbrev due_above : ℕ → ℕ → ℕ
  due_above x y = max (due_on w slices x y B) (max (due_on w slices x y C) (due_on w slices x y D))

  -- what a row takes from the row above
  above_first : (x : ℕ) → latest_above w slices (λ i. 0) x 0 ≡ due_above x 0
  unfolding latest_above
  above_first x = refl

  above_next : (x y : ℕ) → latest_above w slices (λ i. due w slices i y) x (suc y) ≡ due_above x (suc y)
  unfolding latest_above
  above_next x y = let e : suc y - 1 ≡ y = omega arith in rw e

  in_row : (above : ℕ → ℕ) (y x : ℕ) → ((i : ℕ) → due_in_row w slices above y i ≡ due w slices i y) → ((i : ℕ) → latest_above w slices above i y ≡ due_above i y)
      → due w slices x y ≡ 1 + max (due_before w slices x y) (due_above x y)
  unfolding due_in_row
  in_row above y zero f g = sym (f 0) ∙ omega (arith, g 0)
  in_row above y (suc x) f g =
      let e : suc x - 1 ≡ x = omega arith in
      let l : due_before w slices (suc x) y ≡ due w slices x y = rw (lt-ltb 0 (suc x) (omega arith), e) in
      sym (f (suc x)) ∙ omega (arith, f x, g (suc x))

  pub recurrence : (x y : ℕ) → due w slices x y ≡ 1 + max (due_before w slices x y) (due_above x y)
  unfolding due
  recurrence x zero = in_row (λ i. 0) 0 x (λ i. refl) above_first
  recurrence x (suc y) = in_row (λ i. due w slices i y) (suc y) x (λ i. refl) (λ i. above_next i y)

  -- ---- due by turn t + 1 is: what it waits for is due by turn t
  pub record WaitsUntil (t x y : ℕ) : Type 0 where
    pub before : 0 < x → due w slices (x - 1) y ≤ t
    pub sides : (k : Side) → available w slices x y k ≡ true → due w slices (beside_x x k) (beside_y y k) ≤ t

  pub due_some : (x y : ℕ) → 0 < due w slices x y
  due_some x y = omega (arith, recurrence x y)

  pub waits_due : (t x y : ℕ) → WaitsUntil t x y → due w slices x y ≤ suc t
  waits_due t x y p =
      omega (arith, recurrence x y, choose (λ m. m ≤ t) (ltb 0 x) (due w slices (x - 1) y) 0 (λ e. p.before (ltb-true 0 x e)) (λ e. zero-le), on B, on C, on D)
    where
      on : (k : Side) → due_on w slices x y k ≤ t
      on k = choose (λ m. m ≤ t) (available w slices x y k) (due w slices (beside_x x k) (beside_y y k)) 0 (p.sides k) (λ e. zero-le)

  pub due_waits : (t x y : ℕ) → due w slices x y ≤ suc t → WaitsUntil t x y
  due_waits t x y h = record { before = left; sides = sides }
    where
      taken : (b : Bool) (u : ℕ) → cond b u 0 ≤ t → b ≡ true → u ≤ t
      taken true u l e = l
      taken false u l e = let z : ◌≡◌ {A = ℕ} 0 1 = cc in absurd (omega arith)

      left : 0 < x → due w slices (x - 1) y ≤ t
      left l = taken (ltb 0 x) (due w slices (x - 1) y) (omega (arith, recurrence x y)) (lt-ltb 0 x l)

      sides : (k : Side) → available w slices x y k ≡ true → due w slices (beside_x x k) (beside_y y k) ≤ t
      sides A e = left (ltb-true 0 x (available_inside w x y slices A e))
      sides B e = taken (available w slices x y B) (due w slices (beside_x x B) (beside_y y B)) (omega (arith, recurrence x y)) e
      sides C e = taken (available w slices x y C) (due w slices (beside_x x C) (beside_y y C)) (omega (arith, recurrence x y)) e
      sides D e = taken (available w slices x y D) (due w slices (beside_x x D) (beside_y y D)) (omega (arith, recurrence x y)) e

  -- so it is due after each of them
  waits : (x y : ℕ) → WaitsUntil (due w slices x y - 1) x y
  waits x y = due_waits (due w slices x y - 1) x y (omega arith)

  pub due_side : (x y : ℕ) (k : Side) → available w slices x y k ≡ true → due w slices (beside_x x k) (beside_y y k) < due w slices x y
  due_side x y k e = omega (arith, (waits x y).sides k e, due_some x y)

  pub due_next : (x y : ℕ) → due w slices x y < due w slices (suc x) y
  due_next x y =
      let e : suc x - 1 ≡ x = omega arith in
      omega (arith, (waits (suc x) y).before (omega arith), ap (λ i. due w slices i y) e, due_some (suc x) y)

  -- a row comes from the left
  pub due_row : (i x y : ℕ) → i < x → due w slices i y < due w slices x y
  due_row i zero y h = absurd (not-suc-le-zero h)
  due_row i (suc x) y h = go (dec_lt i x) (due_row i x y)
    where
      go : Dec (i < x) → (i < x → due w slices i y < due w slices x y) → due w slices i y < due w slices (suc x) y
      go (yes l) f = omega (arith, f l, due_next x y)
      go (no l) f = let e : i ≡ x = omega arith in rw e (due_next x y)

  pub due_column : (x y : ℕ) → x < due w slices x y
  due_column zero y = due_some 0 y
  due_column (suc x) y = omega (arith, due_column x y, due_next x y)

  -- ---- bounds: any f that grows where a macroblock waits
  module _ (f : ℕ → ℕ → ℕ) (grows : (x y : ℕ) → 0 < x → f (x - 1) y < f x y)
      (further : (x y : ℕ) → x < w → (k : Side) → available w slices x y k ≡ true → f (beside_x x k) (beside_y y k) < f x y) where
    by_address : (m x y : ℕ) → address w x y < m → x < w → due w slices x y ≤ suc (f x y)
    by_address zero x y h hx = absurd (not-suc-le-zero h)
    by_address (suc m) x y h hx =
        waits_due (f x y) x y (record {
          before = λ l. let p : address w (x - 1) y < m = omega arith in
              let q : x - 1 < w = omega arith in
              omega (arith, by_address m (x - 1) y p q, grows x y l);
          sides = λ k e. let b = available_at w x y slices k hx e in
              let p : address w (beside_x x k) (beside_y y k) < m = omega (arith, b.before) in
              omega (arith, by_address m (beside_x x k) (beside_y y k) p b.column, further x y hx k e);
        })

    pub due_most : (x y : ℕ) → x < w → due w slices x y ≤ suc (f x y)
    due_most x y hx = by_address (suc (address w x y)) x y (le_refl (suc (address w x y))) hx

  -- so a macroblock is due by its address and one, and by where the wave of a single slice is
  pub due_address : (x y : ℕ) → x < w → due w slices x y ≤ suc (address w x y)
  due_address = due_most (λ x y. address w x y) (λ x y l. omega arith) (λ x y hx k e. (available_at w x y slices k hx e).before)

  pub due_wave : (x y : ℕ) → x < w → due w slices x y ≤ suc (x + 2 * y)
  due_wave = due_most (λ x y. x + 2 * y) (λ x y l. omega arith) (λ x y hx k e. wave x y k (available_inside w x y slices k e))
    where
      wave : (x y : ℕ) (k : Side) → in_picture w x y k ≡ true → beside_x x k + 2 * beside_y y k < x + 2 * y
      wave x y A t = let l = ltb-true 0 x t in omega arith
      wave x y B t = let l = ltb-true 0 y t in omega arith
      wave x y C t = let l = ltb-true 0 y (and_both (ltb 0 y) (ltb (x + 1) w) t).0 in omega arith
      wave x y D t = let l = ltb-true 0 y (and_both (ltb 0 y) (ltb 0 x) t).0 in omega arith
