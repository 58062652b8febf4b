-- A neighbourhood p and its exchange q are read as one neighbourhood, with p's above and q's above as its left, and as the same on its side: what the marks
-- let through agrees. On its side each mode's formula is its partner's, and the filter keeps an exchange. Assumes nothing.
use mathlib.Core.Path.{◌≡◌, refl, sym, ap, ◌∙◌, subst}
use mathlib.Core.Bool.{Bool, true, false, cond, ◌&&◌, ◌||◌}
use Prim.Native.Nat.{ℕ, ◌+◌, ◌-◌, ◌*◌, ◌/◌, ◌≤◌, ◌<◌}
use native.Mathlib.Omega.{arith}
use lib.Dec.{eqb, ltb}
use borrow.Author.Tests.{ltb-true, eqb-true, ne_eqb, le-ltb}
use Rattle.laws.proofs.Tests.{choose, cond_same, and_left, and_right, or_either}
use Rattle.intra_nxn.specs.IntraNxN.{mean3, down_right, pred_nxn, filtered, filtered_side, filtered_corner}
use Rattle.intra_nxn.proofs.LumaPromise.{promise, equal}
use Rattle.intra_nxn.proofs.Related.{horizontal_down_on_side, in_side}
use Rattle.basics.specs.Marks.{permitted_nxn}
use Rattle.basics.specs.Near.{Near, Agree, mean, dc}
use Rattle.turned.specs.Exchange.{partners, Exchanged, on_side, Level, row_above}

-- ---- the partners, one by one
-- what holds of each of six pairs holds of every pair that is one of them
module _ (P : ℕ → ℕ → Type 0) (m m' : ℕ) where
  at : {i j : ℕ} → P i j → eqb m i && eqb m' j ≡ true → P m m'
  at {i} {j} p e =
      subst (λ k. P k m') (sym (eqb-true m i (and_left (eqb m i) (eqb m' j) e)))
      (subst (P i) (sym (eqb-true m' j (and_right (eqb m i) (eqb m' j) e))) p)

  pub one_of_six : {i₁ j₁ i₂ j₂ i₃ j₃ i₄ j₄ i₅ j₅ i₆ j₆ : ℕ}
      → (eqb m i₁ && eqb m' j₁) || (eqb m i₂ && eqb m' j₂) || (eqb m i₃ && eqb m' j₃)
      || (eqb m i₄ && eqb m' j₄) || (eqb m i₅ && eqb m' j₅) || (eqb m i₆ && eqb m' j₆) ≡ true
      → P i₁ j₁ → P i₂ j₂ → P i₃ j₃ → P i₄ j₄ → P i₅ j₅ → P i₆ j₆ → P m m'
  one_of_six e p₁ p₂ p₃ p₄ p₅ p₆ =
      or_either _ _
      (or_either _ _ (or_either _ _ (or_either _ _ (or_either _ _ (at p₁) (at p₂)) (at p₃)) (at p₄)) (at p₅))
      (at p₆) e

-- partners are permitted together
pub permitted_on_side : (m m' : ℕ) → partners m m' ≡ true → (a l c : Bool) → permitted_nxn l a c m' ≡ permitted_nxn a l c m
permitted_on_side m m' pair =
    one_of_six (λ m m'. (a l c : Bool) → permitted_nxn l a c m' ≡ permitted_nxn a l c m) m m' pair
    (λ a l c. refl) (λ a l c. refl) all_three all_three (λ a l c. refl) all_three
  where
    all_three : (a l c : Bool) → l && a && c ≡ a && l && c
    all_three true true c = refl
    all_three true false c = refl
    all_three false true c = refl
    all_three false false c = refl

-- ---- on its side
side_dc : (n : ℕ) (a l : Bool) (p : Near) → dc n l a (on_side p) ≡ dc n a l p
unfolding dc mean
side_dc n true true p = ap (λ (z : ℕ). z / (2 * n)) (omega arith)
side_dc n true false p = refl
side_dc n false true p = refl
side_dc n false false p = refl

side_down_right : (p : Near) (x y : ℕ) → down_right (on_side p) y x ≡ down_right p x y
unfolding down_right
side_down_right p x y =
    choose (λ v. down_right (on_side p) y x ≡ v) (ltb y x) _ _
    (λ h. let l : y < x = ltb-true y x h in rw (le-ltb x y (omega arith), h))
    (λ h. rw h (cond_same (ltb x y) _ _ _ _ (λ g. refl) (λ g. omega arith)))

side_pred : (n m m' : ℕ) → partners m m' ≡ true → (a l : Bool) (p : Near) (x y : ℕ) → pred_nxn n m' l a (on_side p) y x ≡ pred_nxn n m a l p x y
unfolding pred_nxn
side_pred n m m' pair =
    one_of_six (λ m m'. (a l : Bool) (p : Near) (x y : ℕ) → pred_nxn n m' l a (on_side p) y x ≡ pred_nxn n m a l p x y) m m' pair
    (λ a l p x y. refl) (λ a l p x y. refl)
    (λ a l p x y. horizontal_down_on_side (on_side p) y x) (λ a l p x y. sym (horizontal_down_on_side p x y))
    (λ a l p x y. side_dc n a l p) (λ a l p x y. side_down_right p x y)

-- ---- an exchange goes both ways
pub back : {n : ℕ} {a l c : Bool} {p q : Near} → Exchanged n a l c p q → Exchanged n l a c q p
back e =
    record {
      to_left = λ h i s k. sym (e.to_above h i s k);
      to_above = λ h i s k. sym (e.to_left h i s k);
      same_corner = λ h. sym (e.same_corner h);
    }

-- ---- partners transpose
module _ (n : ℕ) (two : 2 ≤ n) (a l c : Bool) (p q : Near) (e : Exchanged n a l c p q) where
  -- p's row above, and q's row above as its left column
  joined : Near
  joined i j = cond (eqb j 0) (p i 0) (q j 0)

  as_p : Agree (2 * n) n a l c p joined
  unfolding joined
  as_p = record {
    on_above = λ h i s k. refl;
    on_left = λ h j s k. rw (ne_eqb j 0 (omega arith)) (sym (e.to_above h j s k));
    on_corner = λ h. refl;
  }

  as_q : Agree (2 * n) n l a c q (on_side joined)
  unfolding joined
  as_q = record {
    on_above = λ h i s k. rw (ne_eqb i 0 (omega arith));
    on_left = λ h j s k. e.to_left h j s k;
    on_corner = λ h. e.same_corner h;
  }

  pub transposes : (m m' : ℕ) → partners m m' ≡ true → permitted_nxn a l c m ≡ true → permitted_nxn l a c m' ≡ true → (x y : ℕ) → x < n → y < n
      → pred_nxn n m' l a q y x ≡ pred_nxn n m a l p x y
  transposes m m' pair ok ok' x y hx hy =
      let unread = (promise n two (λ a l c p. p) (λ R t a l c p q w. w)).absent_unread in
      unread m' l a c q (on_side joined) y x ok' hy hx as_q
      ∙ side_pred n m m' pair a l joined x y
      ∙ sym (unread m a l c p joined x y ok hx hy as_p)

-- ---- the filter keeps an exchange
-- a level row above is filtered up to sample n - 1 as if it ended there
level_side : (n : ℕ) (c : Bool) (s : ℕ → ℕ) → 2 ≤ n → s (n + 1) ≡ s n → (i : ℕ) → 1 ≤ i → i ≤ n → filtered_side n c s i ≡ filtered_side (2 * n) c s i
unfolding filtered_side
level_side n c s two level i some h =
    cond_same (eqb i 1) _ _ _ _ (λ _. refl)
    (λ _. rw (ne_eqb i (2 * n) (omega arith)) (choose (λ v. v ≡ mean3 (s (i - 1)) (s i) (s (i + 1))) (eqb i n) _ _
    (λ g.
    let last : i ≡ n = eqb-true i n g in
    subst (λ (k : ℕ). (s (n - 1) + 3 * s n + 2) / 4 ≡ mean3 (s (k - 1)) (s k) (s (k + 1))) (sym last) (omega arith))
    (λ _. refl)))

kept_side : (n : ℕ) (c : Bool) (s t : ℕ → ℕ) → 2 ≤ n → (c ≡ true → t 0 ≡ s 0) → ((i : ℕ) → 1 ≤ i → i ≤ n → t i ≡ s i) → s (n + 1) ≡ s n
    → (i : ℕ) → 1 ≤ i → i ≤ n → filtered_side n c t i ≡ filtered_side (2 * n) c s i
kept_side n c s t two corner side level i some h = in_side _ equal n c t s two corner side i some h ∙ level_side n c s two level i some h

kept_corner : (n : ℕ) (a l c : Bool) (p q : Near) → 2 ≤ n → Exchanged n a l c p q → c ≡ true → filtered_corner l a q ≡ filtered_corner a l p
unfolding filtered_corner
kept_corner n true true c p q two e h = omega (arith, e.to_above refl 1 (omega arith) (omega arith), e.same_corner h, e.to_left refl 1 (omega arith) (omega arith))
kept_corner n true false c p q two e h = omega (arith, e.same_corner h, e.to_left refl 1 (omega arith) (omega arith))
kept_corner n false true c p q two e h = omega (arith, e.same_corner h, e.to_above refl 1 (omega arith) (omega arith))
kept_corner n false false c p q two e h = e.same_corner h

pub kept_filtered : (n : ℕ) → 2 ≤ n → (a l c : Bool) (p q : Near) → Exchanged n a l c p q
    → (a ≡ true → Level n (row_above p)) → (l ≡ true → Level n (row_above q)) → Exchanged n a l c (filtered n a l c p) (filtered n l a c q)
unfolding filtered
kept_filtered n two a l c p q e level level' =
    record {
      to_left = to_left a l p q e level;
      to_above = λ h i s k. sym (to_left l a q p (back e) level' h i s k);
      same_corner = λ h. kept_corner n a l c p q two e h;
    }
  where
    last : n - 1 + 1 ≡ n
    last = omega arith

    to_left : (a l : Bool) (p q : Near) → Exchanged n a l c p q → (a ≡ true → Level n (row_above p)) → a ≡ true → (i : ℕ) → 1 ≤ i → i ≤ n
        → filtered n l a c q 0 i ≡ filtered n a l c p i 0
    to_left a l p q e level h i s k =
        rw (ne_eqb i 0 (omega arith))
        (kept_side n c (λ k. p k 0) (λ k. q 0 k) two e.same_corner (e.to_left h) (omega (arith, level h, ap (λ k. p k 0) last)) i s k)
