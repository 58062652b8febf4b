-- A byte of the done map, and rule 5: it holds exactly when each neighbour that is waited for is done. Assumes nothing.
use mathlib.Core.Path.{◌≡◌, refl, ◌∙◌}
use mathlib.Core.Bool.{Bool, true, false, not, ◌&&◌, ◌||◌}
use mathlib.Core.List.{List}
use Prim.Native.Nat.{ℕ}
use lib.ListN.{get_or}
use borrow.Author.Tests.{eqb-true, eq-eqb, ne_eqb}
use Rattle.laws.proofs.Tests.{true_t, T_true, same_test, not_both, and_both, and_of, or_either, or_left, or_right, implied, implied_of, implied_no}
use Rattle.order.specs.Order.{Done}
use Rattle.maps.specs.Done.{is_done, settled, all_settled}
use Rattle.maps.specs.Neighbours.{Side, beside}
use Rattle.maps.specs.Neighbours.Side.{A, B, C, D}

module _ (done : List ℕ) (a : ℕ) where
  pub done_is : is_done done a ≡ true → Done done a
  done_is e = eqb-true (get_or done a 0) 1 e

  pub done_yes : Done done a → is_done done a ≡ true
  done_yes d = eq-eqb (get_or done a 0) 1 d

  pub undone_is : is_done done a ≡ false → ¬ Done done a
  undone_is e d = not_both (done_yes d) e

  pub undone_yes : ¬ Done done a → is_done done a ≡ false
  undone_yes n = ne_eqb (get_or done a 0) 1 n

-- a test of all four sides
module _ (f : Side → Bool) where
  pub sides_is : f A && f B && f C && f D ≡ true → (k : Side) → f k ≡ true
  sides_is e k = each k
    where
      e₃ : (f A && f B && f C ≡ true) × (f D ≡ true)
      e₃ = and_both (f A && f B && f C) (f D) e

      e₂ : (f A && f B ≡ true) × (f C ≡ true)
      e₂ = and_both (f A && f B) (f C) e₃.0

      each : (k : Side) → f k ≡ true
      each A = (and_both (f A) (f B) e₂.0).0
      each B = (and_both (f A) (f B) e₂.0).1
      each C = e₂.1
      each D = e₃.1

  pub sides_yes : ((k : Side) → f k ≡ true) → f A && f B && f C && f D ≡ true
  sides_yes each = rw (each A, each B, each C, each D)

module _ (w x y : ℕ) (waited : Side → Bool) (done : List ℕ) where
  abbrev one : Side → Bool
  one k = settled w x y waited done k

  pub settled_is : all_settled w x y waited done ≡ true → (k : Side) → waited k ≡ true → Done done (beside w x y k)
  unfolding all_settled
  settled_is e k t = done_is done (beside w x y k) (implied (waited k) (is_done done (beside w x y k)) (sides_is one e k) t)

  pub settled_yes : ((k : Side) → waited k ≡ true → Done done (beside w x y k)) → all_settled w x y waited done ≡ true
  unfolding all_settled
  settled_yes f = sides_yes one (λ k. implied_of (waited k) (is_done done (beside w x y k)) (λ t. done_yes done (beside w x y k) (f k t)))

  -- where it is broken, one that is waited for is undone
  pub settled_no : all_settled w x y waited done ≡ false → (k : Side) × (waited k ≡ true) × ¬ Done done (beside w x y k)
  unfolding all_settled
  settled_no e = go (one A) (one B) (one C) (one D) refl refl refl refl e
    where
      at_side : (k : Side) → one k ≡ false → (k : Side) × (waited k ≡ true) × ¬ Done done (beside w x y k)
      at_side k f = let d = implied_no (waited k) (is_done done (beside w x y k)) f in (k, d.0, undone_is done (beside w x y k) d.1)

      go : (a b g d : Bool) → one A ≡ a → one B ≡ b → one C ≡ g → one D ≡ d → a && b && g && d ≡ false → (k : Side) × (waited k ≡ true) × ¬ Done done (beside w x y k)
      go false b g d p q r t f = at_side A p
      go true false g d p q r t f = at_side B q
      go true true false d p q r t f = at_side C r
      go true true true d p q r t f = at_side D (t ∙ f)

-- of two maps it looks at those only that are waited for
pub settled_same : (w x y : ℕ) (waited : Side → Bool) (d e : List ℕ) → ((k : Side) → waited k ≡ true → is_done d (beside w x y k) ≡ is_done e (beside w x y k))
    → all_settled w x y waited d ≡ all_settled w x y waited e
unfolding all_settled
settled_same w x y waited d e f = rw (each A, each B, each C, each D)
  where
    go : (b : Bool) {u v : Bool} → (b ≡ true → u ≡ v) → not b || u ≡ not b || v
    go true g = g refl
    go false g = refl

    each : (k : Side) → settled w x y waited d k ≡ settled w x y waited e k
    each k = go (waited k) (f k)

-- those that are waited for in one way or another are done exactly where those of the second are and those of the first
pub settled_either : (w x y : ℕ) (p q : Side → Bool) (done : List ℕ)
    → all_settled w x y (λ k. p k || q k) done ≡ all_settled w x y q done && all_settled w x y p done
settled_either w x y p q done =
    same_test _ _
    (λ t.
    let all = settled_is w x y (λ k. p k || q k) done (T_true _ t) in
    true_t _ (and_of (settled_yes w x y q done (λ k h. all k (or_right (p k) (q k) h))) (settled_yes w x y p done (λ k h. all k (or_left (p k) (q k) h)))))
    (λ t.
    let both = and_both (all_settled w x y q done) (all_settled w x y p done) (T_true _ t) in
    true_t _ (settled_yes w x y (λ k. p k || q k) done
    (λ k h. or_either (p k) (q k) (settled_is w x y p done both.1 k) (settled_is w x y q done both.0 k) h)))
