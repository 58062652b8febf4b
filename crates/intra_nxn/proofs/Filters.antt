-- The filter of the 8x8 neighbours (8.3.2.2.1), on runs: both sides are one law. Assumes nothing.
use mathlib.Core.Path.{◌≡◌, refl, sym, ap, ◌∙◌}
use mathlib.Core.Bool.{Bool, true, false, cond}
use mathlib.Core.List.{List}
use Prim.Native.Nat.{ℕ, zero, suc, ◌+◌, ◌-◌, ◌*◌, ◌/◌, ◌≤◌, ◌<◌}
use native.Mathlib.Omega.{arith}
use lib.Dec.{eqb}
use borrow.Rule.Slice.PartMut.{put_mid}
use lib.ListN.{get_or, length, set, replicate, length-set, length-append}
use lib.Seq.{get_or-set_same, get_or-set_other}
use Rattle.std.proofs.lemmas.List.{get_or_append_left}
use borrow.Author.Tests.{ne_eqb, eqb-true, eqb-false}
use Rattle.laws.proofs.Tests.{choose}
use Rattle.intra_nxn.specs.IntraNxN.{mean3, filtered, filtered_side, filtered_corner}
use Rattle.basics.specs.Near.{Near}
use Rattle.intra_nxn.specs.inner.Run.{Run, Filtered, mean_round}
use Rattle.intra_nxn.proofs.Places.{turn}

-- ---- the means of three as their loop leaves them, and the ends
mean_moved : (e : List ℕ) (k u v w : ℕ) → u ≡ k → v ≡ 1 + k → w ≡ 2 + k → mean_round e k ≡ mean3 (get_or e u 0) (get_or e v 0) (get_or e w 0)
mean_moved e k u v w a b c = rw (a, b, c)

pub means_made : (e xs : List ℕ) → length xs ≡ 25 → ((k : ℕ) → k < 25 → get_or xs k 0 ≡ mean_round e (1 + k))
    → Filtered e (set (set (put_mid 2 25 (replicate 32 0) xs) 1 (get_or (put_mid 2 25 (replicate 32 0) xs) 2 0)) 27
    (get_or (set (put_mid 2 25 (replicate 32 0) xs) 1 (get_or (put_mid 2 25 (replicate 32 0) xs) 2 0)) 26 0))
means_made e xs long here =
    record {
      size = simp length-set len;
      three = λ i a b. other i (omega arith) (omega arith) ∙ place i a b;
      end_left = get_or-set_other f₁ 27 1 (get_or f₁ 26 0) 0 (omega arith) ∙ get_or-set_same f 1 (get_or f 2 0) 0 (omega (arith, len)) ∙ sym (other 2 (omega arith) (omega arith));
      end_above = get_or-set_same f₁ 27 (get_or f₁ 26 0) 0 (simp length-set (omega (arith, len))) ∙ sym (get_or-set_other f₁ 27 26 (get_or f₁ 26 0) 0 (omega arith));
    }
  where
    f : List ℕ
    f = put_mid 2 25 (replicate 32 0) xs

    len : length f ≡ 32
    len = simp length-append (omega (arith, long))

    place : (i : ℕ) → 2 ≤ i → i ≤ 26 → get_or f i 0 ≡ mean3 (get_or e (i - 1) 0) (get_or e i 0) (get_or e (i + 1) 0)
    place zero a b = absurd (omega arith)
    place (suc zero) a b = absurd (omega arith)
    place (suc (suc k)) a b =
        get_or_append_left xs _ 0 k (omega (arith, long)) ∙ here k (omega arith) ∙ mean_moved e (1 + k) _ _ _ (omega arith) (omega arith) (omega arith)

    f₁ : List ℕ
    f₁ = set f 1 (get_or f 2 0)

    other : (i : ℕ) → (i ≡ 1 → ⊥) → (i ≡ 27 → ⊥) → get_or (set f₁ 27 (get_or f₁ 26 0)) i 0 ≡ get_or f i 0
    other i a b = get_or-set_other f₁ 27 i (get_or f₁ 26 0) 0 b ∙ get_or-set_other f 1 i (get_or f 2 0) 0 a

-- ---- one side
-- the mean next to an absent corner, and at a corner with absent sides
next_to : (c : Bool) (x y z : ℕ) → mean3 (cond c x y) y z ≡ cond c (mean3 x y z) ((3 * y + z + 2) / 4)
next_to true x y z = refl
next_to false x y z = omega arith

middle : (a l : Bool) (p : Near) → mean3 (cond l (p 0 1) (p 0 0)) (p 0 0) (cond a (p 1 0) (p 0 0)) ≡ filtered_corner a l p
unfolding filtered_corner
middle true true p = omega arith
middle true false p = omega arith
middle false true p = omega arith
middle false false p = omega arith

-- e reads the side s, its last sample twice, and f takes the means of three of what e reads, but for the first
side_is : (last : ℕ) (c : Bool) (s e f : ℕ → ℕ) → 2 ≤ last → ((i : ℕ) → i ≤ last → e i ≡ s i) → e (last + 1) ≡ s last
    → f 1 ≡ mean3 (cond c (e 0) (e 1)) (e 1) (e 2) → ((i : ℕ) → 2 ≤ i → i ≤ last → f i ≡ mean3 (e (i - 1)) (e i) (e (i + 1)))
    → (i : ℕ) → 1 ≤ i → i ≤ last → f i ≡ filtered_side last c s i
unfolding filtered_side
side_is last c s e f two same end first rest i some h =
    choose (λ v. f i ≡ v) (eqb i 1) _ _
    (λ t. ap f (eqb-true i 1 t) ∙ first ∙ rw (same 0 (omega arith), same 1 (omega arith), same 2 (omega arith)) (next_to c (s 0) (s 1) (s 2)))
    (λ t.
    let more : 2 ≤ i = omega (arith, eqb-false i 1 t) in
    let near : f i ≡ mean3 (s (i - 1)) (s i) (e (i + 1)) = rest i more h ∙ rw (same (i - 1) (omega arith), same i h) in
    choose (λ v. f i ≡ v) (eqb i last) _ _
    (λ u.
    let e₁ : i ≡ last = eqb-true i last u in
    near ∙ rw (e₁, end) (omega arith))
    (λ u.
    let e₁ : i ≡ last → ⊥ = eqb-false i last u in
    near ∙ rw (same (i + 1) (omega arith))))

-- ---- both sides and the corner
module _ (e f : List ℕ) (a l c : Bool) (x₉ x₁₀ x₁₁ : ℕ) (means : Filtered e f)
    (is₉ : x₉ ≡ mean3 (get_or e 8 0) (get_or e 9 0) (cond c (get_or e 10 0) (get_or e 9 0)))
    (is₁₀ : x₁₀ ≡ mean3 (cond l (get_or e 9 0) (get_or e 10 0)) (get_or e 10 0) (cond a (get_or e 11 0) (get_or e 10 0)))
    (is₁₁ : x₁₁ ≡ mean3 (cond c (get_or e 10 0) (get_or e 11 0)) (get_or e 11 0) (get_or e 12 0))
    (p : Near) (run : Run 8 p e) where
  pub filtered_run : Run 8 (filtered 8 a l c p) (set (set (set f 9 x₉) 10 x₁₀) 11 x₁₁)
  unfolding filtered
  filtered_run =
      record {
        size = simp length-set means.size;
        above = up;
        left = down;
        last_above = other (27) (omega arith) (omega arith) (omega arith) ∙ means.end_above
            ∙ sym (other (26) (omega arith) (omega arith) (omega arith)) ∙ up (16) (omega arith);
        last_left = other (1) (omega arith) (omega arith) (omega arith) ∙ means.end_left
            ∙ sym (other (2) (omega arith) (omega arith) (omega arith)) ∙ down 8 (omega arith);
      }
    where
      f₁ : List ℕ
      f₁ = set f 9 x₉

      f₂ : List ℕ
      f₂ = set f₁ 10 x₁₀

      g : List ℕ
      g = set f₂ 11 x₁₁

      other : (i : ℕ) → (i ≡ 9 → ⊥) → (i ≡ 10 → ⊥) → (i ≡ 11 → ⊥) → get_or g i 0 ≡ get_or f i 0
      other i u v w = get_or-set_other f₂ 11 i x₁₁ 0 w ∙ get_or-set_other f₁ 10 i x₁₀ 0 v ∙ get_or-set_other f 9 i x₉ 0 u

      corner : get_or g 10 0 ≡ filtered_corner a l p
      corner =
          get_or-set_other f₂ 11 10 x₁₁ 0 (omega arith) ∙ get_or-set_same f₁ 10 x₁₀ 0 (simp length-set (omega (arith, means.size))) ∙ is₁₀
          ∙ rw (run.left 1 (omega arith), run.above 0 (omega arith), run.above 1 (omega arith)) (middle a l p)

      up : (i : ℕ) → i ≤ 16 → get_or g (10 + i) 0 ≡ filtered 8 a l c p i 0
      up zero h = corner
      up (suc i) h = rw (ne_eqb (suc i) 0 (omega arith))
          (side_is (16) c (λ k. p k 0) (λ k. get_or e (10 + k) 0) (λ k. get_or g (10 + k) 0) (omega arith) run.above
          (ap (λ (z : ℕ). get_or e z 0) (omega arith) ∙ run.last_above)
          (get_or-set_same f₂ 11 x₁₁ 0 (simp length-set (omega (arith, means.size))) ∙ is₁₁)
          (λ k s t. other (10 + k) (omega arith) (omega arith) (omega arith) ∙ means.three (10 + k) (omega arith) (omega arith)
          ∙ shifted (10 + k - 1) (10 + (k - 1)) (10 + k + 1) (10 + (k + 1)) (get_or e (10 + k) 0) (omega arith) (omega arith))
          (suc i) (omega arith) h)
        where
          shifted : (u v w z m : ℕ) → u ≡ v → w ≡ z → mean3 (get_or e u 0) m (get_or e w 0) ≡ mean3 (get_or e v 0) m (get_or e z 0)
          shifted u v w z m s t = rw (s, t)

      down : (j : ℕ) → j ≤ 8 → get_or g (10 - j) 0 ≡ filtered 8 a l c p 0 j
      down zero h = corner
      down (suc j) h = rw (ne_eqb (suc j) 0 (omega arith))
          (side_is 8 c (λ k. p 0 k) (λ k. get_or e (10 - k) 0) (λ k. get_or g (10 - k) 0) (omega arith) run.left
          (ap (λ (z : ℕ). get_or e z 0) (omega arith) ∙ run.last_left)
          (get_or-set_other f₂ 11 9 x₁₁ 0 (omega arith) ∙ get_or-set_other f₁ 10 9 x₁₀ 0 (omega arith) ∙ get_or-set_same f 9 x₉ 0 (omega (arith, means.size)) ∙ is₉
          ∙ turn (get_or e 8 0) (get_or e 9 0) (cond c (get_or e 10 0) (get_or e 9 0)))
          (λ k s t. other (10 - k) (omega arith) (omega arith) (omega arith) ∙ means.three (10 - k) (omega arith) (omega arith)
          ∙ shifted (10 - k - 1) (10 - (k + 1)) (10 - k + 1) (10 - (k - 1)) (get_or e (10 - k) 0) (omega arith) (omega arith))
          (suc j) (omega arith) h)
        where
          shifted : (u v w z m : ℕ) → u ≡ v → w ≡ z → mean3 (get_or e u 0) m (get_or e w 0) ≡ mean3 (get_or e z 0) m (get_or e v 0)
          shifted u v w z m s t = rw (s, t) (turn (get_or e v 0) m (get_or e z 0))
