-- Predictions follow the samples that the marks let through, once over the side and once for every relation: where the samples of two neighbourhoods
-- that are let through are related, and the relation goes through the means, so are the predictions, and so are the filtered samples. Assumes nothing.
use mathlib.Core.Path.{◌≡◌, refl}
use mathlib.Core.Bool.{Bool, true, false, cond, ◌&&◌}
use mathlib.Core.Logic.{⊎_elim}
use Prim.Native.Nat.{ℕ, zero, suc, ◌+◌, ◌-◌, ◌*◌, ◌/◌, ◌%◌, ◌≤◌, ◌<◌}
use native.Mathlib.Omega.{arith}
use lib.Dec.{eqb, ltb, leb}
use borrow.Author.Tests.{ltb-true, leb-true, eqb-true, eqb-false, ne_eqb}
use Rattle.laws.proofs.Tests.{choose_both, and_left, and_right, and_some, not_both}
use Rattle.intra_nxn.specs.IntraNxN.{mean2, mean3, down_left, down_right, vertical_right, horizontal_down, vertical_left, horizontal_up, pred_nxn, filtered, filtered_side, filtered_corner}
use Rattle.basics.specs.Marks.{permitted_nxn}
use Rattle.basics.specs.Near.{Near, dc}
use Rattle.intra_nxn.proofs.Places.{turn}

-- what the marks let through is related
pub record Open (R : ℕ → ℕ → Type 0) (n : ℕ) (above left corner : Bool) (p q : Near) : Type 0 where
  pub on_above : above ≡ true → (i : ℕ) → 1 ≤ i → i ≤ 2 * n → R (p i 0) (q i 0)
  pub on_left : left ≡ true → (j : ℕ) → 1 ≤ j → j ≤ n → R (p 0 j) (q 0 j)
  pub on_corner : corner ≡ true → R (p 0 0) (q 0 0)

-- the relation goes through the means
pub record Through (R : ℕ → ℕ → Type 0) : Type 0 where
  pub by_2 : {a b a' b' : ℕ} → R a a' → R b b' → R (mean2 a b) (mean2 a' b')
  pub by_3 : {a b c a' b' c' : ℕ} → R a a' → R b b' → R c c' → R (mean3 a b c) (mean3 a' b' c')

-- a mean of three with one sample twice
twice_last : (a b : ℕ) → mean3 a b b ≡ (a + 3 * b + 2) / 4
twice_last a b = omega arith

twice_first : (a b : ℕ) → mean3 a a b ≡ (3 * a + b + 2) / 4
twice_first a b = omega arith

-- Horizontal_Down is Vertical_Right with rows and columns exchanged
pub horizontal_down_on_side : (p : Near) (x y : ℕ) → horizontal_down p x y ≡ vertical_right (λ i j. p j i) y x
unfolding horizontal_down vertical_right
horizontal_down_on_side p x y = rw (turn (p 0 1) (p 0 0) (p 1 0))

module _ (R : ℕ → ℕ → Type 0) (means : Through R) where
  pub by_13 : {a b a' b' : ℕ} → R a a' → R b b' → R ((a + 3 * b + 2) / 4) ((a' + 3 * b' + 2) / 4)
  by_13 {a} {b} {a'} {b'} r s = rw (← twice_last a b, ← twice_last a' b') (means.by_3 r s s)

  pub by_31 : {a b a' b' : ℕ} → R a a' → R b b' → R ((3 * a + b + 2) / 4) ((3 * a' + b' + 2) / 4)
  by_31 {a} {b} {a'} {b'} r s = rw (← twice_first a b, ← twice_first a' b') (means.by_3 r r s)

  -- ---- one side, the other, and both with the corner
  module _ (n : ℕ) (p q : Near) (two : 2 ≤ n) (x y : ℕ) (hx : x < n) (hy : y < n) where
    module _ (up : (i : ℕ) → 1 ≤ i → i ≤ 2 * n → R (p i 0) (q i 0)) where
      pub in_down_left : R (down_left n p x y) (down_left n q x y)
      unfolding down_left
      in_down_left =
          choose_both R (eqb x (n - 1) && eqb y (n - 1)) _ _ _ _
          (λ h. by_13 (up _ (omega arith) (omega arith)) (up _ (omega arith) (omega arith)))
          (λ h.
          let last : x + y + 3 ≤ 2 * n = ⊎_elim
          (λ g. let a : x ≡ n - 1 → ⊥ = eqb-false _ _ g in omega arith)
          (λ g. let b : y ≡ n - 1 → ⊥ = eqb-false _ _ g in omega arith)
          (and_some (eqb x (n - 1)) (eqb y (n - 1)) h) in
          means.by_3 (up _ (omega arith) (omega arith)) (up _ (omega arith) (omega arith)) (up _ (omega arith) (omega arith)))

      pub in_vertical_left : R (vertical_left p x y) (vertical_left q x y)
      unfolding vertical_left
      in_vertical_left =
          choose_both R (eqb (y % 2) 0) _ _ _ _
          (λ h. means.by_2 (up _ (omega arith) (omega arith)) (up _ (omega arith) (omega arith)))
          (λ h.
          let odd : y % 2 ≡ 0 → ⊥ = eqb-false _ _ h in
          means.by_3 (up _ (omega arith) (omega arith)) (up _ (omega arith) (omega arith)) (up _ (omega arith) (omega arith)))

    pub in_horizontal_up : ((j : ℕ) → 1 ≤ j → j ≤ n → R (p 0 j) (q 0 j)) → R (horizontal_up n p x y) (horizontal_up n q x y)
    unfolding horizontal_up
    in_horizontal_up down =
        choose_both R (ltb (x + 2 * y) (2 * n - 3)) _ _ _ _
        (λ g.
        let l : x + 2 * y < 2 * n - 3 = ltb-true _ _ g in
        choose_both R (eqb (x % 2) 0) _ _ _ _
        (λ f. means.by_2 (down _ (omega arith) (omega arith)) (down _ (omega arith) (omega arith)))
        (λ f.
        let odd : x % 2 ≡ 0 → ⊥ = eqb-false _ _ f in
        means.by_3 (down _ (omega arith) (omega arith)) (down _ (omega arith) (omega arith)) (down _ (omega arith) (omega arith))))
        (λ g. choose_both R (eqb (x + 2 * y) (2 * n - 3)) _ _ _ _
        (λ f. by_13 (down _ (omega arith) (omega arith)) (down _ (omega arith) (omega arith)))
        (λ f. down n (omega arith) (omega arith)))

    module _ (up : (i : ℕ) → i ≤ n → R (p i 0) (q i 0)) (down : (j : ℕ) → j ≤ n → R (p 0 j) (q 0 j)) where
      pub in_down_right : R (down_right p x y) (down_right q x y)
      unfolding down_right
      in_down_right =
          choose_both R (ltb y x) _ _ _ _
          (λ h. let l : y < x = ltb-true _ _ h in means.by_3 (up _ (omega arith)) (up _ (omega arith)) (up _ (omega arith)))
          (λ g. choose_both R (ltb x y) _ _ _ _
          (λ h. let l : x < y = ltb-true _ _ h in means.by_3 (down _ (omega arith)) (down _ (omega arith)) (down _ (omega arith)))
          (λ h. means.by_3 (up 1 (omega arith)) (up 0 (omega arith)) (down 1 (omega arith))))

      pub in_vertical_right : R (vertical_right p x y) (vertical_right q x y)
      unfolding vertical_right
      in_vertical_right =
          choose_both R (leb y (2 * x)) _ _ _ _
          (λ g.
          let l : y ≤ 2 * x = leb-true _ _ g in
          choose_both R (eqb (y % 2) 0) _ _ _ _
          (λ f. means.by_2 (up _ (omega arith)) (up _ (omega arith)))
          (λ f. means.by_3 (up _ (omega arith)) (up _ (omega arith)) (up _ (omega arith))))
          (λ g. choose_both R (eqb y (2 * x + 1)) _ _ _ _
          (λ f. means.by_3 (down 1 (omega arith)) (down 0 (omega arith)) (up 1 (omega arith)))
          (λ f. means.by_3 (down _ (omega arith)) (down _ (omega arith)) (down _ (omega arith))))

  pub in_horizontal_down : (n : ℕ) (p q : Near) → 2 ≤ n → (x y : ℕ) → x < n → y < n → ((i : ℕ) → i ≤ n → R (p i 0) (q i 0)) → ((j : ℕ) → j ≤ n → R (p 0 j) (q 0 j))
      → R (horizontal_down p x y) (horizontal_down q x y)
  in_horizontal_down n p q two x y hx hy up down =
      rw (horizontal_down_on_side p x y, horizontal_down_on_side q x y) (in_vertical_right n (λ i j. p j i) (λ i j. q j i) two y x hy hx down up)

  -- a side from the corner on
  from_0 : (k : ℕ) (f g : ℕ → ℕ) → R (f 0) (g 0) → ((i : ℕ) → 1 ≤ i → i ≤ k → R (f i) (g i)) → (i : ℕ) → i ≤ k → R (f i) (g i)
  from_0 k f g z s zero h = z
  from_0 k f g z s (suc i) h = s (suc i) (omega arith) h

  -- ---- the prediction; what DC keeps is asked
  pub related : (mode n : ℕ) (a l c : Bool) (p q : Near) (x y : ℕ) → 2 ≤ n → x < n → y < n → permitted_nxn a l c mode ≡ true
      → (mode ≡ 2 → R (dc n a l p) (dc n a l q)) → Open R n a l c p q → R (pred_nxn n mode a l p x y) (pred_nxn n mode a l q x y)
  unfolding pred_nxn
  related mode n a l c p q x y two hx hy ok at-dc w =
      choose_both R (eqb mode 0) _ _ _ _ (λ h. w.on_above (rw (eqb-true mode 0 h) at ok) (x + 1) (omega arith) (omega arith))
      (λ h0. choose_both R (eqb mode 1) _ _ _ _ (λ h. w.on_left (rw (eqb-true mode 1 h) at ok) (y + 1) (omega arith) (omega arith))
      (λ h1. choose_both R (eqb mode 2) _ _ _ _ (λ h. at-dc (eqb-true mode 2 h))
      (λ h2. choose_both R (eqb mode 3) _ _ _ _ (λ h. in_down_left n p q two x y hx hy (w.on_above (rw (eqb-true mode 3 h) at ok)))
      (λ h3. choose_both R (eqb mode 4) _ _ _ _ (λ h. with_all (rw (eqb-true mode 4 h) at ok) (in_down_right n p q two x y hx hy))
      (λ h4. choose_both R (eqb mode 5) _ _ _ _ (λ h. with_all (rw (eqb-true mode 5 h) at ok) (in_vertical_right n p q two x y hx hy))
      (λ h5. choose_both R (eqb mode 6) _ _ _ _ (λ h. with_all (rw (eqb-true mode 6 h) at ok) (in_horizontal_down n p q two x y hx hy))
      (λ h6. choose_both R (eqb mode 7) _ _ _ _ (λ h. in_vertical_left n p q two x y hx hy (w.on_above (rw (eqb-true mode 7 h) at ok)))
      (λ h7. in_horizontal_up n p q two x y hx hy (w.on_left (only_8 (eqb mode 8) (rw (h0, h3, h7, h1, h2, h4, h5, h6) at ok)))))))))))
    where
      only_8 : (t : Bool) → cond t l false ≡ true → l ≡ true
      only_8 true e = e
      only_8 false e = absurd (not_both e refl)

      with_all : {u v : ℕ} → a && l && c ≡ true
          → (((i : ℕ) → i ≤ n → R (p i 0) (q i 0)) → ((j : ℕ) → j ≤ n → R (p 0 j) (q 0 j)) → R u v) → R u v
      with_all t f =
          let corner = w.on_corner (and_right (a && l) c t) in
          let sides = and_left (a && l) c t in
          f (from_0 n (λ i. p i 0) (λ i. q i 0) corner (λ i s h. w.on_above (and_left a l sides) i s (omega arith)))
          (from_0 n (λ j. p 0 j) (λ j. q 0 j) corner (w.on_left (and_right a l sides)))

  -- ---- the filter
  pub in_side : (last : ℕ) (c : Bool) (s t : ℕ → ℕ) → 2 ≤ last → (c ≡ true → R (s 0) (t 0)) → ((i : ℕ) → 1 ≤ i → i ≤ last → R (s i) (t i))
      → (i : ℕ) → 1 ≤ i → i ≤ last → R (filtered_side last c s i) (filtered_side last c t i)
  unfolding filtered_side
  in_side last c s t two corner side i some h =
      choose_both R (eqb i 1) _ _ _ _
      (λ _. choose_both R c _ _ _ _
      (λ hc. means.by_3 (corner hc) (side 1 (omega arith) (omega arith)) (side 2 (omega arith) two))
      (λ _. by_31 (side 1 (omega arith) (omega arith)) (side 2 (omega arith) two)))
      (λ e.
      let more : i ≡ 1 → ⊥ = eqb-false i 1 e in
      choose_both R (eqb i last) _ _ _ _
      (λ _. by_13 (side (last - 1) (omega arith) (omega arith)) (side last (omega arith) (omega arith)))
      (λ u.
      let less : i ≡ last → ⊥ = eqb-false i last u in
      means.by_3 (side (i - 1) (omega arith) (omega arith)) (side i some h) (side (i + 1) (omega arith) (omega arith))))

  pub in_corner : (n : ℕ) (a l c : Bool) (p q : Near) → 2 ≤ n → Open R n a l c p q → c ≡ true → R (filtered_corner a l p) (filtered_corner a l q)
  unfolding filtered_corner
  in_corner n true true c p q two w hc = means.by_3 (w.on_above refl 1 (omega arith) (omega arith)) (w.on_corner hc) (w.on_left refl 1 (omega arith) (omega arith))
  in_corner n true false c p q two w hc = by_31 (w.on_corner hc) (w.on_above refl 1 (omega arith) (omega arith))
  in_corner n false true c p q two w hc = by_31 (w.on_corner hc) (w.on_left refl 1 (omega arith) (omega arith))
  in_corner n false false c p q two w hc = w.on_corner hc

  pub related_filtered : (n : ℕ) (a l c : Bool) (p q : Near) → 2 ≤ n → Open R n a l c p q → Open R n a l c (filtered n a l c p) (filtered n a l c q)
  unfolding filtered
  related_filtered n a l c p q two w =
      record {
        on_above = λ ha i s h. rw (ne_eqb i 0 (omega arith)) (in_side (2 * n) c (λ k. p k 0) (λ k. q k 0) (omega arith) w.on_corner (w.on_above ha) i s h);
        on_left = λ hl j s h. rw (ne_eqb j 0 (omega arith)) (in_side n c (λ k. p 0 k) (λ k. q 0 k) two w.on_corner (w.on_left hl) j s h);
        on_corner = in_corner n a l c p q two w;
      }
