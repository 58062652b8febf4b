-- The run of a block's neighbours, as its function leaves it. Assumes nothing.
use mathlib.Core.Path.{◌≡◌, ap, ◌∙◌}
use mathlib.Core.List.{List}
use Prim.Native.Nat.{ℕ, zero, suc, ◌+◌, ◌-◌, ◌*◌, ◌≤◌, ◌<◌}
use native.Mathlib.Omega.{arith}
use lib.ListN.{get_or, length, set, length-set}
use lib.Seq.{get_or-set_same, get_or-set_other}
use Rattle.basics.specs.Near.{near}
use Rattle.basics.proofs.Near.{near_above, near_left}
use Rattle.intra_nxn.specs.inner.Run.{Run}

-- both sides are laid; then come the last sample of either side once more and the corner
module _ (n : ℕ) (top left : List ℕ) (corner : ℕ) (e : List ℕ) (low : 2 ≤ n) (high : n ≤ 8) (size : length e ≡ 32)
    (lefts : (m : ℕ) → m < n → get_or e (9 - m) 0 ≡ get_or left m 0) (aboves : (m : ℕ) → m < 2 * n → get_or e (11 + m) 0 ≡ get_or top m 0) where
  e₁ : List ℕ
  e₁ = set e (9 - n) (get_or left (n - 1) 0)

  e₂ : List ℕ
  e₂ = set e₁ 10 corner

  e₃ : List ℕ
  e₃ = set e₂ (11 + 2 * n) (get_or top (2 * n - 1) 0)

  other : (i : ℕ) → (i ≡ 10 → ⊥) → (i ≡ 11 + 2 * n → ⊥) → (i ≡ 9 - n → ⊥) → get_or e₃ i 0 ≡ get_or e i 0
  unfolding e₁ e₂ e₃
  other i a b d = get_or-set_other e₂ (11 + 2 * n) i _ 0 b ∙ get_or-set_other e₁ 10 i _ 0 a ∙ get_or-set_other e (9 - n) i _ 0 d

  at_corner : get_or e₃ 10 0 ≡ near top left corner 0 0
  unfolding e₁ e₂ e₃ near
  at_corner = get_or-set_other e₂ (11 + 2 * n) 10 _ 0 (omega arith) ∙ get_or-set_same e₁ 10 corner 0 (simp length-set (omega arith))

  up : (i : ℕ) → i ≤ 2 * n → get_or e₃ (10 + i) 0 ≡ near top left corner i 0
  up zero h = at_corner
  up (suc i) h =
      ap (λ (z : ℕ). get_or e₃ z 0) (omega arith) ∙ other (11 + i) (omega arith) (omega arith) (omega arith) ∙ aboves i (omega arith)
      ∙ near_above top left corner i (suc i) (omega arith)

  down : (j : ℕ) → j ≤ n → get_or e₃ (10 - j) 0 ≡ near top left corner 0 j
  down zero h = at_corner
  down (suc j) h =
      ap (λ (z : ℕ). get_or e₃ z 0) (omega arith) ∙ other (9 - j) (omega arith) (omega arith) (omega arith) ∙ lefts j (omega arith)
      ∙ near_left top left corner j (suc j) (omega arith)

  pub run_made : Run n (near top left corner) (set (set (set e (9 - n) (get_or left (n - 1) 0)) 10 corner) (11 + 2 * n) (get_or top (2 * n - 1) 0))
  unfolding e₁ e₂ e₃
  run_made =
      record {
        size = simp length-set size;
        above = up;
        left = down;
        last_above = get_or-set_same e₂ (11 + 2 * n) _ 0 (simp length-set (omega arith)) ∙ near_above top left corner (2 * n - 1) (2 * n) (omega arith);
        last_left = get_or-set_other e₂ (11 + 2 * n) (9 - n) _ 0 (omega arith) ∙ get_or-set_other e₁ 10 (9 - n) corner 0 (omega arith)
            ∙ get_or-set_same e (9 - n) _ 0 (omega arith) ∙ near_left top left corner (n - 1) n (omega arith);
      }
