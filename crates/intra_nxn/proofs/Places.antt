-- Every sample of a mode from 3 on stands at its place among the means of the run: mode by mode and once over the side. Assumes nothing.
use mathlib.Core.Path.{◌≡◌, sym, ap, ◌∙◌}
use mathlib.Core.Bool.{cond, ◌&&◌}
use mathlib.Core.List.{List}
use mathlib.Core.Logic.{⊎_elim}
use Prim.Native.Nat.{ℕ, ◌+◌, ◌-◌, ◌*◌, ◌/◌, ◌%◌, ◌≤◌, ◌<◌}
use native.Mathlib.Omega.{arith}
use lib.Dec.{eqb, ltb, leb}
use lib.ListN.{get_or}
use borrow.Author.Tests.{le-ltb, eq-eqb, ne_eqb, ltb-true, ltb-false, leb-true, leb-false, eqb-true, eqb-false}
use Rattle.laws.proofs.Tests.{choose, and_both, and_some}
use Rattle.intra_nxn.specs.IntraNxN.{mean2, mean3, down_left, down_right, vertical_right, horizontal_down, vertical_left, horizontal_up}
use Rattle.basics.specs.Near.{Near}
use Rattle.intra_nxn.specs.inner.Run.{Run, mean_round, mean_from}

-- the means do not mind the order
pub turn : (a b c : ℕ) → mean3 a b c ≡ mean3 c b a
turn a b c = omega arith

turn2 : (a b : ℕ) → mean2 a b ≡ mean2 b a
turn2 a b = omega arith

-- ---- where the means stand: at 2k the mean of three round place 1 + k of the run, at 2k + 1 that of two from there on
abbrev pub stood : List ℕ → ℕ → ℕ
stood e i = cond (eqb (i % 2) 0) (mean_round e (i / 2)) (mean_from e (i / 2))

module _ (e : List ℕ) where
  pub three_at : (i k : ℕ) → i ≡ 2 * k → mean_round e k ≡ stood e i
  three_at i k q =
      let half : i / 2 ≡ k = omega arith in
      rw (eq-eqb (i % 2) 0 (omega arith), half)

  pub two_at : (i k : ℕ) → i ≡ 2 * k + 1 → mean_from e k ≡ stood e i
  two_at i k q =
      let half : i / 2 ≡ k = omega arith in
      rw (ne_eqb (i % 2) 0 (omega arith), half)

-- ---- what stands there
module _ (n : ℕ) (p : Near) (e : List ℕ) (low : 2 ≤ n) (high : n ≤ 8) (run : Run n p e) where
  -- the run, at any number that is the place
  on_above : (i a : ℕ) → i ≡ 10 + a → a ≤ 2 * n → get_or e i 0 ≡ p a 0
  on_above i a q h = ap (λ (z : ℕ). get_or e z 0) q ∙ run.above a h

  on_left : (i b : ℕ) → i + b ≡ 10 → b ≤ n → get_or e i 0 ≡ p 0 b
  on_left i b q h = ap (λ (z : ℕ). get_or e z 0) (omega arith) ∙ run.left b h

  -- the mean of three round place 1 + k and of two from it on, at any number that is theirs
  three : (i k : ℕ) {u v w : ℕ} → i ≡ 2 * k → get_or e k 0 ≡ u → get_or e (1 + k) 0 ≡ v → get_or e (2 + k) 0 ≡ w → stood e i ≡ mean3 u v w
  three i k q hu hv hw = sym (three_at e i k q) ∙ rw (hu, hv, hw)

  two : (i k : ℕ) {u v : ℕ} → i ≡ 2 * k + 1 → get_or e (1 + k) 0 ≡ u → get_or e (2 + k) 0 ≡ v → stood e i ≡ mean2 u v
  two i k q hu hv = sym (two_at e i k q) ∙ rw (hu, hv)

  -- above, from the left on: p a 0, p b 0 and p c 0
  three_above : (i a b c : ℕ) → i ≡ 20 + 2 * a → b ≡ a + 1 → c ≡ a + 2 → c ≤ 2 * n → stood e i ≡ mean3 (p a 0) (p b 0) (p c 0)
  three_above i a b c ei eb ec h =
      three i (9 + b) (omega arith) (on_above _ a (omega arith) (omega arith)) (on_above _ b (omega arith) (omega arith)) (on_above _ c (omega arith) h)

  two_above : (i a b : ℕ) → i ≡ 19 + 2 * a → b ≡ a + 1 → b ≤ 2 * n → stood e i ≡ mean2 (p a 0) (p b 0)
  two_above i a b ei eb h = two i (9 + a) (omega arith) (on_above _ a (omega arith) (omega arith)) (on_above _ b (omega arith) h)

  -- left, from the top down: p 0 a, p 0 b and p 0 c
  three_left : (i a b c : ℕ) → i + 2 * b ≡ 18 → b ≡ a + 1 → c ≡ a + 2 → c ≤ n → stood e i ≡ mean3 (p 0 a) (p 0 b) (p 0 c)
  three_left i a b c ei eb ec h =
      three i (9 - b) (omega arith) (on_left _ c (omega arith) h) (on_left _ b (omega arith) (omega arith)) (on_left _ a (omega arith) (omega arith))
      ∙ turn (p 0 c) (p 0 b) (p 0 a)

  two_left : (i a b : ℕ) → i + 2 * b ≡ 19 → b ≡ a + 1 → b ≤ n → stood e i ≡ mean2 (p 0 a) (p 0 b)
  two_left i a b ei eb h =
      two i (9 - b) (omega arith) (on_left _ b (omega arith) h) (on_left _ a (omega arith) (omega arith)) ∙ turn2 (p 0 b) (p 0 a)

  -- at the corner, and at the two ends
  three_corner : (i : ℕ) → i ≡ 18 → stood e i ≡ mean3 (p 0 1) (p 0 0) (p 1 0)
  three_corner i ei = three i 9 ei (run.left 1 (omega arith)) (run.above 0 (omega arith)) (run.above 1 (omega arith))

  end_above : (i : ℕ) → i ≡ 18 + 4 * n → stood e i ≡ (p (2 * n - 1) 0 + 3 * p (2 * n) 0 + 2) / 4
  end_above i ei =
      three i (9 + 2 * n) (omega arith) (on_above _ (2 * n - 1) (omega arith) (omega arith)) (on_above _ (2 * n) (omega arith) (omega arith))
      (ap (λ (z : ℕ). get_or e z 0) (omega arith) ∙ run.last_above)
      ∙ omega arith

  end_left : (i : ℕ) → i ≡ 18 - 2 * n → stood e i ≡ (p 0 (n - 1) + 3 * p 0 n + 2) / 4
  end_left i ei =
      three i (9 - n) (omega arith) (ap (λ (z : ℕ). get_or e z 0) (omega arith) ∙ run.last_left) (on_left _ n (omega arith) (omega arith))
      (on_left _ (n - 1) (omega arith) (omega arith))
      ∙ omega arith

  -- ---- the samples of each mode, at their places
  module _ (x y i : ℕ) (hx : x < n) (hy : y < n) where
    abbrev Is : ℕ → Type 0
    Is v = stood e i ≡ v

    pub at_down_left : i ≡ 22 + 2 * (x + y) → Is (down_left n p x y)
    unfolding down_left
    at_down_left ei =
        choose Is (eqb x (n - 1) && eqb y (n - 1)) _ _
        (λ h.
        let a : x ≡ n - 1 = eqb-true _ _ (and_both (eqb x (n - 1)) (eqb y (n - 1)) h).0 in
        let b : y ≡ n - 1 = eqb-true _ _ (and_both (eqb x (n - 1)) (eqb y (n - 1)) h).1 in
        end_above i (omega arith))
        (λ h. three_above i _ _ _ (omega arith) (omega arith) (omega arith)
        (⊎_elim
        (λ g. let a : x ≡ n - 1 → ⊥ = eqb-false _ _ g in omega arith)
        (λ g. let b : y ≡ n - 1 → ⊥ = eqb-false _ _ g in omega arith)
        (and_some (eqb x (n - 1)) (eqb y (n - 1)) h)))

    pub at_down_right : i ≡ 18 + 2 * x - 2 * y → Is (down_right p x y)
    unfolding down_right
    at_down_right ei =
        choose Is (ltb y x) _ _
        (λ h. let l : y < x = ltb-true _ _ h in three_above i _ _ _ (omega arith) (omega arith) (omega arith) (omega arith))
        (λ g. choose Is (ltb x y) _ _
        (λ h. let l : x < y = ltb-true _ _ h in three_left i _ _ _ (omega arith) (omega arith) (omega arith) (omega arith))
        (λ h. three_corner i (omega (arith, ltb-false)) ∙ turn (p 0 1) (p 0 0) (p 1 0)))

    pub at_vertical_right : (y ≤ 2 * x + 1 → i ≡ 19 + 2 * x - y) → (2 * x + 1 < y → i ≡ 20 + 4 * x - 2 * y) → Is (vertical_right p x y)
    unfolding vertical_right
    at_vertical_right here past =
        choose Is (leb y (2 * x)) _ _
        (λ g.
        let l : y ≤ 2 * x = leb-true _ _ g in
        let ei : i ≡ 19 + 2 * x - y = here (omega arith) in
        choose Is (eqb (y % 2) 0) _ _
        (λ f. let even : y % 2 ≡ 0 = eqb-true _ _ f in two_above i _ _ (omega arith) (omega arith) (omega arith))
        (λ f. let odd : y % 2 ≡ 0 → ⊥ = eqb-false _ _ f in three_above i _ _ _ (omega arith) (omega arith) (omega arith) (omega arith)))
        (λ g.
        let l : 2 * x < y = leb-false _ _ g in
        choose Is (eqb y (2 * x + 1)) _ _
        (λ f. let e1 : y ≡ 2 * x + 1 = eqb-true _ _ f in three_corner i (omega (arith, here (omega arith))))
        (λ f.
        let e1 : y ≡ 2 * x + 1 → ⊥ = eqb-false _ _ f in
        let ei : i ≡ 20 + 4 * x - 2 * y = past (omega arith) in
        three_left i _ _ _ (omega arith) (omega arith) (omega arith) (omega arith)
        ∙ turn (p 0 (y - 2 * x - 2)) (p 0 (y - 2 * x - 1)) (p 0 (y - 2 * x))))

    pub at_horizontal_down : (x ≤ 2 * y + 1 → i ≡ 17 + x - 2 * y) → (2 * y + 1 < x → i ≡ 16 + 2 * x - 4 * y) → Is (horizontal_down p x y)
    unfolding horizontal_down
    at_horizontal_down here past =
        choose Is (leb x (2 * y)) _ _
        (λ g.
        let l : x ≤ 2 * y = leb-true _ _ g in
        let ei : i ≡ 17 + x - 2 * y = here (omega arith) in
        choose Is (eqb (x % 2) 0) _ _
        (λ f. let even : x % 2 ≡ 0 = eqb-true _ _ f in two_left i _ _ (omega arith) (omega arith) (omega arith))
        (λ f. let odd : x % 2 ≡ 0 → ⊥ = eqb-false _ _ f in three_left i _ _ _ (omega arith) (omega arith) (omega arith) (omega arith)))
        (λ g.
        let l : 2 * y < x = leb-false _ _ g in
        choose Is (eqb x (2 * y + 1)) _ _
        (λ f. let e1 : x ≡ 2 * y + 1 = eqb-true _ _ f in three_corner i (omega (arith, here (omega arith))))
        (λ f.
        let e1 : x ≡ 2 * y + 1 → ⊥ = eqb-false _ _ f in
        let ei : i ≡ 16 + 2 * x - 4 * y = past (omega arith) in
        three_above i _ _ _ (omega arith) (omega arith) (omega arith) (omega arith)
        ∙ turn (p (x - 2 * y - 2) 0) (p (x - 2 * y - 1) 0) (p (x - 2 * y) 0)))

    pub at_vertical_left : i ≡ 21 + 2 * x + y → Is (vertical_left p x y)
    unfolding vertical_left
    at_vertical_left ei =
        choose Is (eqb (y % 2) 0) _ _
        (λ f. let even : y % 2 ≡ 0 = eqb-true _ _ f in two_above i _ _ (omega arith) (omega arith) (omega arith))
        (λ f. let odd : y % 2 ≡ 0 → ⊥ = eqb-false _ _ f in three_above i _ _ _ (omega arith) (omega arith) (omega arith) (omega arith))

    pub at_horizontal_up : i ≡ 15 - (x + 2 * y) → x + 2 * y ≤ 2 * n - 3 → Is (horizontal_up n p x y)
    unfolding horizontal_up
    at_horizontal_up ei near =
        choose Is (ltb (x + 2 * y) (2 * n - 3)) _ _
        (λ g.
        let l : x + 2 * y < 2 * n - 3 = ltb-true _ _ g in
        choose Is (eqb (x % 2) 0) _ _
        (λ f. let even : x % 2 ≡ 0 = eqb-true _ _ f in two_left i _ _ (omega arith) (omega arith) (omega arith))
        (λ f. let odd : x % 2 ≡ 0 → ⊥ = eqb-false _ _ f in three_left i _ _ _ (omega arith) (omega arith) (omega arith) (omega arith)))
        (λ g.
        let l : 2 * n - 3 ≤ x + 2 * y = ltb-false _ _ g in
        choose Is (eqb (x + 2 * y) (2 * n - 3)) _ _
        (λ f. let e1 : x + 2 * y ≡ 2 * n - 3 = eqb-true _ _ f in end_left i (omega arith))
        (λ f. let e1 : x + 2 * y ≡ 2 * n - 3 → ⊥ = eqb-false _ _ f in absurd (omega arith)))

  -- past the last mean Horizontal_Up shows the last sample to the left
  pub past_horizontal_up : (x y : ℕ) → 2 * n - 3 < x + 2 * y → get_or e (10 - n) 0 ≡ horizontal_up n p x y
  unfolding horizontal_up
  past_horizontal_up x y past = rw (le-ltb (x + 2 * y) (2 * n - 3) (omega arith), ne_eqb (x + 2 * y) (2 * n - 3) (omega arith)) (on_left (10 - n) n (omega arith) (omega arith))
