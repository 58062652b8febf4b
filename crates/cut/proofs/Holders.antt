-- Table 6-3, case by case: who holds samples beside a block that are there. For every cut. Assumes nothing.
use mathlib.Core.Path.{◌≡◌, refl}
use mathlib.Core.Bool.{Bool, true, false, cond, ◌&&◌}
use Prim.Native.Nat.{ℕ, ◌-◌, ◌<◌, ◌≤◌}
use native.Mathlib.Omega.{arith}
use borrow.Author.Tests.{eqb-true, eqb-false, leb-true, leb-false, ltb-true}
use lib.Dec.{T, eqb, ltb, leb}
use Rattle.basics.specs.Nnz.{blk_idx}
use Rattle.maps.specs.Neighbours.{Side}
use Rattle.maps.specs.Neighbours.Side.{A, B, C, D}
use Rattle.cut.specs.Cut.{holder_at, held_by}
use Rattle.cut.specs.Cut.Holder.{own, other, nobody}

-- the block in column i and row j, counted from one before the macroblock
pub by_holder : {P : Type 0} (m k i j : ℕ) (marks : Side → Bool)
    → (i ≡ 0 → j ≡ 0 → T (marks D) → P)
    → (0 < i → i ≤ m → j ≡ 0 → T (marks B) → P)
    → (m < i → j ≡ 0 → T (marks C) → P)
    → (i ≡ 0 → 0 < j → T (marks A) → P)
    → (0 < i → i ≤ m → 0 < j → blk_idx (i - 1) (j - 1) < k → P)
    → T (held_by marks (holder_at m k i j)) → P
by_holder {P} m k i j marks in-d in_b in_c in-a earlier = go (eqb j 0) (eqb i 0) (leb i m) (ltb (blk_idx (i - 1) (j - 1)) k) refl refl refl refl
  where
    some : (n : ℕ) → eqb n 0 ≡ false → 0 < n
    some n e = let z = eqb-false n 0 e in omega arith

    go : (b₁ b₂ b₃ b₄ : Bool) → eqb j 0 ≡ b₁ → eqb i 0 ≡ b₂ → leb i m ≡ b₃ → ltb (blk_idx (i - 1) (j - 1)) k ≡ b₄
        → T (held_by marks (cond b₁ (cond b₂ (other D) (cond b₃ (other B) (other C))) (cond b₂ (other A) (cond (b₃ && b₄) own nobody)))) → P
    go true true b₃ b₄ e₁ e₂ e₃ e₄ t = in-d (eqb-true i 0 e₂) (eqb-true j 0 e₁) t
    go true false true b₄ e₁ e₂ e₃ e₄ t = in_b (some i e₂) (leb-true i m e₃) (eqb-true j 0 e₁) t
    go true false false b₄ e₁ e₂ e₃ e₄ t = in_c (let l = leb-false i m e₃ in omega arith) (eqb-true j 0 e₁) t
    go false true b₃ b₄ e₁ e₂ e₃ e₄ t = in-a (eqb-true i 0 e₂) (some j e₁) t
    go false false true true e₁ e₂ e₃ e₄ t = earlier (some i e₂) (leb-true i m e₃) (some j e₁) (ltb-true (blk_idx (i - 1) (j - 1)) k e₄)
    go false false true false e₁ e₂ e₃ e₄ t = absurd t
    go false false false b₄ e₁ e₂ e₃ e₄ t = absurd t
