-- A permitted prediction of a whole block reads no sample of a side that is absent: mode by mode, each reads its own sides. Assumes nothing.
use mathlib.Core.Path.{◌≡◌, refl, ap}
use mathlib.Core.Bool.{Bool, true, false, cond, not, ◌&&◌}
use Prim.Native.Nat.{ℕ, zero, suc, ◌+◌, ◌*◌, ◌/◌, ◌≤◌, ◌<◌}
use native.Mathlib.Omega.{arith}
use lib.Dec.{eqb, ltb}
use Rattle.laws.specs.Table.{sum_of}
use Rattle.laws.proofs.Sums.{sum_same}
use Rattle.laws.proofs.Tests.{not_both, and_left, and_both, cond_same}
use Rattle.basics.specs.Marks.{permitted16x16, permitted_chroma}
use Rattle.basics.specs.Near.{Near, dc, Agree}
use Rattle.basics.proofs.Dc.{mean_same}
use Rattle.samples.specs.Intra16x16.{pred_l}
use Rattle.samples.specs.IntraChroma.{region_dc, pred_c}
use Rattle.samples.specs.PlaneMode.{plane}
use Rattle.samples.specs.WholePromise.{WholePromise}
use Rattle.samples.proofs.PlaneMode.{plane_same}

-- what the rule of mode 3 says where it permits
all_there : (t above left corner : Bool) → cond t (above && left && corner) false ≡ true → (above ≡ true) × (left ≡ true) × (corner ≡ true)
all_there true above left corner h = let g = and_both (above && left) corner h in let k = and_both above left g.0 in (k.0, k.1, g.1)
all_there false above left corner h = absurd (not_both {b = false} h refl)

module _ (n : ℕ) (above left corner : Bool) (p q : Near) (same : Agree n n above left corner p q) where
  sum_above : (from m : ℕ) → from + m ≤ n → above ≡ true → sum_of m (λ x. p (from + x + 1) 0) ≡ sum_of m (λ x. q (from + x + 1) 0)
  sum_above from m h t = sum_same m _ _ (λ x l. same.on_above t (from + x + 1) (omega arith) (omega arith))

  sum_left : (from m : ℕ) → from + m ≤ n → left ≡ true → sum_of m (λ y. p 0 (from + y + 1)) ≡ sum_of m (λ y. q 0 (from + y + 1))
  sum_left from m h t = sum_same m _ _ (λ y l. same.on_left t (from + y + 1) (omega arith) (omega arith))

  dc_same : dc n above left p ≡ dc n above left q
  unfolding dc
  dc_same =
      mean_same n above left _ _ _ _ (λ t. sum_same n _ _ (λ x l. same.on_above t (x + 1) (omega arith) (omega arith)))
      (λ t. sum_same n _ _ (λ y l. same.on_left t (y + 1) (omega arith) (omega arith)))

  region_same : (x y : ℕ) → x + 4 ≤ n → y + 4 ≤ n → region_dc above left p x y ≡ region_dc above left q x y
  unfolding region_dc
  region_same x y hx hy =
      let a = sum_above x 4 hx in
      let l = sum_left y 4 hy in
      cond_same (ltb 0 x && eqb y 0) _ _ _ _ (λ _. mean_same 4 above (left && not above) _ _ _ _ a (λ t. l (and_left left (not above) t)))
      (λ _. cond_same (eqb x 0 && ltb 0 y) _ _ _ _ (λ _. mean_same 4 (above && not left) left _ _ _ _ (λ t. a (and_left above (not left) t)) l)
      (λ _. mean_same 4 above left _ _ _ _ a l))

  -- with all three there, every sample of the two lines
  pub ramp_same : (m k : ℕ) → 1 ≤ m → 2 * m ≤ n → (above ≡ true) × (left ≡ true) × (corner ≡ true) → (x y : ℕ) → plane m k p x y ≡ plane m k q x y
  ramp_same m k one h (a, l, c) x y = ap (λ (f : ℕ → ℕ → ℕ). f x y) (plane_same m k p q one across down)
    where
      across : (i : ℕ) → i ≤ 2 * m → p i 0 ≡ q i 0
      across zero b = same.on_corner c
      across (suc i) b = same.on_above a (suc i) (omega arith) (omega arith)

      down : (j : ℕ) → j ≤ 2 * m → p 0 j ≡ q 0 j
      down zero b = same.on_corner c
      down (suc j) b = same.on_left l (suc j) (omega arith) (omega arith)

luma : (mode : ℕ) (above left corner : Bool) (p q : Near) → permitted16x16 above left corner mode ≡ true → Agree 16 16 above left corner p q
    → (x y : ℕ) → x < 16 → y < 16 → pred_l mode above left p x y ≡ pred_l mode above left q x y
unfolding pred_l
luma mode above left corner p q ok same x y hx hy =
    cond_same (eqb mode 0) _ _ _ _ (λ e. same.on_above (rw e at ok) (x + 1) (omega arith) (omega arith))
    (λ e₀. cond_same (eqb mode 1) _ _ _ _ (λ e. same.on_left (rw (e₀, e) at ok) (y + 1) (omega arith) (omega arith))
    (λ e₁. cond_same (eqb mode 2) _ _ _ _ (λ e. dc_same 16 above left corner p q same)
    (λ e₂. ramp_same 16 above left corner p q same 8 5 (omega arith) (omega arith) (all_there (eqb mode 3) above left corner (rw (e₀, e₁, e₂) at ok)) x y)))

chroma : (mode : ℕ) (above left corner : Bool) (p q : Near) → permitted_chroma above left corner mode ≡ true → Agree 8 8 above left corner p q
    → (x y : ℕ) → x < 8 → y < 8 → pred_c mode above left p x y ≡ pred_c mode above left q x y
unfolding pred_c
chroma mode above left corner p q ok same x y hx hy =
    cond_same (eqb mode 0) _ _ _ _ (λ e. region_same 8 above left corner p q same (x / 4 * 4) (y / 4 * 4) (omega arith) (omega arith))
    (λ e₀. cond_same (eqb mode 1) _ _ _ _ (λ e. same.on_left (rw (e₀, e) at ok) (y + 1) (omega arith) (omega arith))
    (λ e₁. cond_same (eqb mode 2) _ _ _ _ (λ e. same.on_above (rw (e₀, e₁, e) at ok) (x + 1) (omega arith) (omega arith))
    (λ e₂. ramp_same 8 above left corner p q same 4 34 (omega arith) (omega arith) (all_there (eqb mode 3) above left corner (rw (e₀, e₁, e₂) at ok)) x y)))

pub whole_promise : WholePromise
whole_promise = record { luma = luma; chroma = chroma }
