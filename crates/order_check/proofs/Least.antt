-- The least of some places, and which macroblocks come before a neighbour: one by one, between two columns, and in the picture. Assumes nothing.
use mathlib.Core.Path.{◌≡◌, refl, sym, ap, ap₂, subst, ◌∙◌}
use mathlib.Core.Bool.{Bool, true, false, cond, ◌&&◌, ◌||◌}
use mathlib.Core.Logic.{◌⊎◌, inl, inr}
use mathlib.Core.List.{List}
use Prim.Native.Nat.{ℕ, ◌+◌, ◌-◌, ◌<◌, ◌≤◌, min}
use native.Mathlib.Decide.{ℕ_discrete, dec_lt}
use native.Mathlib.Omega.{arith}
use lib.Dec.{eqb, leb}
use lib.ListN.{get_or}
use borrow.Author.Tests.{lt-ltb, leb-true, le-leb}
use Rattle.laws.proofs.Tests.{not_both, and_both, and_of, and_same, or_either, or_left, or_right}
use Rattle.maps.specs.Neighbours.{Side, beside, in_picture, available}
use Rattle.maps.specs.Neighbours.Side.{A, B, C, D}
use Rattle.maps.specs.Size.{address}
use Rattle.maps.proofs.Beside.{back_of, available_at}
use Rattle.order_check.specs.inner.Places.{Least, early_on, early, if_early, EarlyBetween, EarlyIn}

-- ---- the least of some
least_none : {P : ℕ → Type 0} → ((i : ℕ) → ¬ P i) → Least P 65535
least_none none = record { least = λ i p. absurd (none i p); is = inl refl }

least_one : (t : Bool) (n : ℕ) → Least (λ i. (t ≡ true) × (n ≡ i)) (cond t n 65535)
least_one true n = record { least = λ i (t, e). omega arith; is = inr (refl, refl) }
least_one false n = record { least = λ i (t, e). absurd (not_both t refl); is = inl refl }

least_either : {P Q R : ℕ → Type 0} {r s : ℕ} → Least P r → Least Q s → ((i : ℕ) → R i → P i ⊎ Q i) → ((i : ℕ) → P i → R i) → ((i : ℕ) → Q i → R i)
    → Least R (min r s)
least_either {P} {Q} {R} {r} {s} p q split left right = record { least = λ i e. low i (split i e); is = is (dec_lt s r) }
  where
    low : (i : ℕ) → P i ⊎ Q i → min r s ≤ i
    low i (inl e) = omega (arith, p.least i e)
    low i (inr e) = omega (arith, q.least i e)

    of : {S : ℕ → Type 0} {t : ℕ} → min r s ≡ t → ((i : ℕ) → S i → R i) → (t ≡ 65535) ⊎ S t → (min r s ≡ 65535) ⊎ R (min r s)
    of e into (inl z) = inl (e ∙ z)
    of {S} {t} e into (inr z) = inr (subst R (sym e) (into t z))

    is : Dec (s < r) → (min r s ≡ 65535) ⊎ R (min r s)
    is (yes l) = of {S = Q} {t = s} (omega arith) right q.is
    is (no l) = of {S = P} {t = r} (omega arith) left p.is

module _ (w : ℕ) (slices places : List ℕ) where
  -- ---- one macroblock
  module _ (x y : ℕ) where
    pub early_yes : (k : Side) → available w slices x y k ≡ true → get_or places (address w x y) 0 ≤ get_or places (beside w x y k) 0
        → early w slices places x y ≡ true
    early_yes k t l = on k (and_of t (le-leb (get_or places (address w x y) 0) (get_or places (beside w x y k) 0) l))
      where
        f : Side → Bool
        f = early_on w slices places x y

        on : (k : Side) → f k ≡ true → f A || f B || f C || f D ≡ true
        on A e = or_left (f A || f B || f C) (f D) (or_left (f A || f B) (f C) (or_left (f A) (f B) e))
        on B e = or_left (f A || f B || f C) (f D) (or_left (f A || f B) (f C) (or_right (f A) (f B) e))
        on C e = or_left (f A || f B || f C) (f D) (or_right (f A || f B) (f C) e)
        on D e = or_right (f A || f B || f C) (f D) e

    pub early_is : early w slices places x y ≡ true
        → (k : Side) × (available w slices x y k ≡ true) × (get_or places (address w x y) 0 ≤ get_or places (beside w x y k) 0)
    early_is = or_either (f A || f B || f C) (f D) (or_either (f A || f B) (f C) (or_either (f A) (f B) (one A) (one B)) (one C)) (one D)
      where
        f : Side → Bool
        f = early_on w slices places x y

        one : (k : Side) → f k ≡ true → (k : Side) × (available w slices x y k ≡ true) × (get_or places (address w x y) 0 ≤ get_or places (beside w x y k) 0)
        one k e =
            let b = and_both (available w slices x y k) (leb (get_or places (address w x y) 0) (get_or places (beside w x y k) 0)) e in
            (k, b.0, leb-true (get_or places (address w x y) 0) (get_or places (beside w x y k) 0) b.1)

    abbrev sooner : ℕ → Bool
    sooner there = leb (get_or places (address w x y) 0) (get_or places there 0)

    -- the test on a side, by a mark and by how far back the neighbour is
    pub on_back : (k : Side) (mark : Bool) → x < w → mark ≡ available w slices x y k
        → mark && sooner (address w x y - back_of w k) ≡ early_on w slices places x y k
    on_back k mark h e =
        ap (λ b. b && sooner (address w x y - back_of w k)) e ∙ and_same (available w slices x y k) (λ t. ap sooner (available_at w x y slices k h t).is)

    -- and by two slice numbers, where it lies in the picture
    pub on_inner : (k : Side) (there : ℕ) → in_picture w x y k ≡ true → there ≡ beside w x y k
        → eqb (get_or slices there 0) (get_or slices (address w x y) 0) && sooner there ≡ early_on w slices places x y k
    on_inner k there t e = rw (e, t)

    -- all four together
    pub on_any : (a b c d : Bool) (r : ℕ) → a ≡ early_on w slices places x y A → b ≡ early_on w slices places x y B → c ≡ early_on w slices places x y C
        → d ≡ early_on w slices places x y D → r ≡ cond (a || b || c || d) (get_or places (address w x y) 0) 65535 → r ≡ if_early w slices places x y
    unfolding if_early
    on_any a b c d r p q s t e = e ∙ ap (λ z. cond z (get_or places (address w x y) 0) 65535) (ap₂ ◌||◌ (ap₂ ◌||◌ (ap₂ ◌||◌ p q) s) t)

  -- ---- between two columns of a row
  module _ (y : ℕ) where
    pub between_none : (from : ℕ) → Least (EarlyBetween w slices places y from from) 65535
    between_none from = least_none (λ i (x, l, m, t, is). absurd (omega arith))

    one_column : (x : ℕ) → Least (λ i. (early w slices places x y ≡ true) × (get_or places (address w x y) 0 ≡ i)) (if_early w slices places x y)
    unfolding if_early
    one_column x = least_one (early w slices places x y) (get_or places (address w x y) 0)

    pub between_more : (from to r s : ℕ) → from ≤ to → Least (EarlyBetween w slices places y from to) r → s ≡ if_early w slices places to y
        → Least (EarlyBetween w slices places y from (to + 1)) (min r s)
    between_more from to r s l p e =
        rw e (least_either p (one_column to) split (λ i (x, m, n, t, is). (x, m, omega arith, t, is)) (λ i (t, is). (to, l, omega arith, t, is)))
      where
        split : (i : ℕ) → EarlyBetween w slices places y from (to + 1) i
            → EarlyBetween w slices places y from to i ⊎ ((early w slices places to y ≡ true) × (get_or places (address w to y) 0 ≡ i))
        split i (x, m, n, t, is) = go (ℕ_discrete x to)
          where
            go : Dec (x ≡ to) → EarlyBetween w slices places y from to i ⊎ ((early w slices places to y ≡ true) × (get_or places (address w to y) 0 ≡ i))
            go (yes z) = inr (subst (λ c. (early w slices places c y ≡ true) × (get_or places (address w c y) 0 ≡ i)) z (t, is))
            go (no z) = inl (x, m, omega arith, t, is)

    -- the inner columns end before the last: where there are none, the loop stops at column 1
    pub between_end : (to r : ℕ) → 1 ≤ to → (1 < to → to < w) → w ≤ to + 1 → Least (EarlyBetween w slices places y 1 to) r
        → Least (EarlyBetween w slices places y 1 (w - 1)) r
    between_end to r some inner l p = record { least = λ i (x, m, n, t, is). p.least i (x, m, omega arith, t, is); is = go p.is }
      where
        last : (x : ℕ) → 1 ≤ x → x < to → x < w - 1
        last x m n = let u = inner (omega arith) in omega arith

        go : (r ≡ 65535) ⊎ EarlyBetween w slices places y 1 to r → (r ≡ 65535) ⊎ EarlyBetween w slices places y 1 (w - 1) r
        go (inl z) = inl z
        go (inr (x, m, n, t, is)) = inr (x, m, last x m n, t, is)

    -- what lies between the ends of a row, and the two ends
    pub between_ends : (r left right : ℕ) → 0 < w → Least (EarlyBetween w slices places y 1 (w - 1)) r
        → left ≡ if_early w slices places 0 y → right ≡ if_early w slices places (w - 1) y → Least (EarlyBetween w slices places y 0 w) (min r (min left right))
    between_ends r left right some p e f =
        rw (e, f) (least_either p (least_either (one_column 0) (one_column (w - 1)) (λ i z. z) (λ i. inl) (λ i. inr)) split inner end)
      where
        End : ℕ → ℕ → Type 0
        End x i = (early w slices places x y ≡ true) × (get_or places (address w x y) 0 ≡ i)

        split : (i : ℕ) → EarlyBetween w slices places y 0 w i → EarlyBetween w slices places y 1 (w - 1) i ⊎ (End 0 i ⊎ End (w - 1) i)
        split i (x, m, n, t, is) = go (ℕ_discrete x 0) (ℕ_discrete x (w - 1))
          where
            go : Dec (x ≡ 0) → Dec (x ≡ w - 1) → EarlyBetween w slices places y 1 (w - 1) i ⊎ (End 0 i ⊎ End (w - 1) i)
            go (yes z) d = inr (inl (subst (λ c. End c i) z (t, is)))
            go (no z) (yes d) = inr (inr (subst (λ c. End c i) d (t, is)))
            go (no z) (no d) = inl (x, omega arith, omega arith, t, is)

        inner : (i : ℕ) → EarlyBetween w slices places y 1 (w - 1) i → EarlyBetween w slices places y 0 w i
        inner i (x, m, n, t, is) = (x, omega arith, omega arith, t, is)

        end : (i : ℕ) → End 0 i ⊎ End (w - 1) i → EarlyBetween w slices places y 0 w i
        end i (inl (t, is)) = (0, omega arith, some, t, is)
        end i (inr (t, is)) = (w - 1, omega arith, omega arith, t, is)

  -- ---- the rows so far
  pub rows_first : (r : ℕ) → Least (EarlyBetween w slices places 0 0 w) r → Least (EarlyIn w 1 slices places) r
  rows_first r p = record { least = λ i (y, l, e). p.least i (first i y l e); is = go p.is }
    where
      first : (i y : ℕ) → y < 1 → EarlyBetween w slices places y 0 w i → EarlyBetween w slices places 0 0 w i
      first i y l e = let z : y ≡ 0 = omega arith in subst (λ v. EarlyBetween w slices places v 0 w i) z e

      go : (r ≡ 65535) ⊎ EarlyBetween w slices places 0 0 w r → (r ≡ 65535) ⊎ EarlyIn w 1 slices places r
      go (inl z) = inl z
      go (inr z) = inr (0, omega arith, z)

  pub rows_more : (y r s : ℕ) → Least (EarlyIn w y slices places) r → Least (EarlyBetween w slices places y 0 w) s
      → Least (EarlyIn w (y + 1) slices places) (min r s)
  rows_more y r s p q = least_either p q split (λ i (z, l, e). (z, omega arith, e)) (λ i e. (y, omega arith, e))
    where
      split : (i : ℕ) → EarlyIn w (y + 1) slices places i → EarlyIn w y slices places i ⊎ EarlyBetween w slices places y 0 w i
      split i (z, l, e) = go (ℕ_discrete z y)
        where
          go : Dec (z ≡ y) → EarlyIn w y slices places i ⊎ EarlyBetween w slices places y 0 w i
          go (yes m) = inr (subst (λ v. EarlyBetween w slices places v 0 w i) m e)
          go (no m) = inl (z, omega arith, e)

-- between the ends of a row below the first, every neighbour lies in the picture
pub inner_inside : (w x y : ℕ) → 0 < x → x + 1 < w → 0 < y → (k : Side) → in_picture w x y k ≡ true
inner_inside w x y hx hw hy A = lt-ltb 0 x hx
inner_inside w x y hx hw hy B = lt-ltb 0 y hy
inner_inside w x y hx hw hy C = and_of (lt-ltb 0 y hy) (lt-ltb (x + 1) w hw)
inner_inside w x y hx hw hy D = and_of (lt-ltb 0 y hy) (lt-ltb 0 x hx)
