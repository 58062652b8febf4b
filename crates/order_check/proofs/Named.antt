-- What stands before a place of the list: by the test, by words, and by noted places. Assumes nothing.
use mathlib.Core.Path.{◌≡◌, refl, sym, ap, subst, ◌∙◌}
use mathlib.Core.Bool.{Bool, true, false, not, ◌||◌}
use mathlib.Core.Logic.{◌⊎◌, inl, inr}
use mathlib.Core.List.{List}
use Prim.Native.Nat.{ℕ, ◌+◌, ◌/◌, ◌%◌, ◌<◌, ◌≤◌}
use native.Mathlib.Decide.{ℕ_discrete, dec_lt}
use native.Mathlib.Nat.{not-suc-le-zero}
use native.Mathlib.Omega.{arith}
use lib.Dec.{eqb, ltb}
use lib.ListN.{get_or, length, set, length-set, replicate, get_or-replicate}
use lib.Seq.{get_or-set_same, get_or-set_other}
use borrow.Author.Tests.{eqb-true, eq-eqb, ne_eqb, ltb-true, lt-ltb, le-ltb}
use Rattle.laws.proofs.Tests.{not_both, no_from, and_both, and_of, implied, implied_of, some_none, some_next, some_of, some_is}
use Rattle.order.specs.FullOrder.{InPlace}
use Rattle.maps.specs.Neighbours.{Side, beside, available, Adjoins}
use Rattle.maps.proofs.Waiting.{sides_is, sides_yes}
use Rattle.order_check.specs.Check.{named_before, beside_before, all_before, entry_ok}
use Rattle.order_check.specs.inner.Places.{NotedTo}

module _ (order : List ℕ) where
  -- ---- the test
  pub named_is : (i a : ℕ) → named_before order i a ≡ true → (j : ℕ) × (j < i) × (get_or order j 0 ≡ a)
  unfolding named_before
  named_is i a e =
      let p = some_is i (λ j. eqb (get_or order j 0) a) e in
      (p.0, p.1, eqb-true (get_or order p.0 0) a p.2)

  pub named_yes : (i a j : ℕ) → j < i → get_or order j 0 ≡ a → named_before order i a ≡ true
  unfolding named_before
  named_yes i a j l e = some_of i (λ j. eqb (get_or order j 0) a) j l (eq-eqb (get_or order j 0) a e)

  named_none : (a : ℕ) → named_before order 0 a ≡ false
  unfolding named_before
  named_none a = some_none (λ j. eqb (get_or order j 0) a)

  named_next : (i a : ℕ) → named_before order i a || eqb (get_or order i 0) a ≡ named_before order (i + 1) a
  unfolding named_before
  named_next i a = some_next i (λ j. eqb (get_or order j 0) a)

  -- ---- an entry in place
  module _ (w : ℕ) (slices : List ℕ) (i : ℕ) where
    pub entry_is : entry_ok w slices order i ≡ true → InPlace (Adjoins w slices) order i
    unfolding entry_ok
    entry_is e = record { new = new; after = after }
      where
        a : ℕ
        a = get_or order i 0

        both : (not (named_before order i a) ≡ true) × (all_before w slices order i a ≡ true)
        both = and_both (not (named_before order i a)) (all_before w slices order i a) e

        new : (j : ℕ) → j < i → ¬ (get_or order j 0 ≡ a)
        new j l q = not_both both.0 (ap not (named_yes i a j l q))

        after : (b : ℕ) → Adjoins w slices a b → (j : ℕ) × (j < i) × (get_or order j 0 ≡ b)
        after b (k, t, is) =
            subst (λ c. (j : ℕ) × (j < i) × (get_or order j 0 ≡ c)) is
            (named_is i (beside w (a % w) (a / w) k)
            (implied (available w slices (a % w) (a / w) k) (named_before order i (beside w (a % w) (a / w) k))
            (sides_is (beside_before w slices order i a) both.1 k) t))

    pub entry_yes : InPlace (Adjoins w slices) order i → entry_ok w slices order i ≡ true
    unfolding entry_ok
    entry_yes p = and_of (ap not unnamed) (sides_yes (beside_before w slices order i a) each)
      where
        a : ℕ
        a = get_or order i 0

        unnamed : named_before order i a ≡ false
        unnamed = no_from (named_before order i a) (named_is i a) (λ (j, l, q). p.new j l q)

        each : (k : Side) → beside_before w slices order i a k ≡ true
        each k =
            implied_of (available w slices (a % w) (a / w) k) (named_before order i (beside w (a % w) (a / w) k))
            (λ t. let f = p.after (beside w (a % w) (a / w) k) (k, t, refl) in named_yes i (beside w (a % w) (a / w) k) f.0 f.1 f.2)

    pub entry_no : ¬ InPlace (Adjoins w slices) order i → entry_ok w slices order i ≡ false
    entry_no n = no_from (entry_ok w slices order i) entry_is n

  -- ---- noted places
  pub noted_none : (places : List ℕ) → places ≡ replicate (length places) 65535 → NotedTo order 0 places
  noted_none places is = record {
    most = omega arith;
    new = λ i l. absurd (not-suc-le-zero l);
    named = λ j a l h. let z : j ≡ 0 = omega arith in rw (z, named_none a, le-ltb (get_or places a 0) 0 (omega arith));
    only = λ a h. inr (ap (λ l. get_or l a 0) is ∙ get_or-replicate (length places) a 65535 0 h);
  }

  module _ (i a : ℕ) (places : List ℕ) (n : NotedTo order i places) (l : i < length order) (is : a ≡ get_or order i 0) (h : a < length places) where
    -- one more that was not named
    pub noted_more : i < 65535 → get_or places a 0 ≡ 65535 → NotedTo order (i + 1) (set places a i)
    noted_more few free = record { most = omega arith; new = new; named = λ j b m hb. named j b m (kept b hb); only = λ b hb. only b (kept b hb) }
      where
        kept : (b : ℕ) → b < length (set places a i) → b < length places
        kept b hb = omega (arith, length-set places a i)

        unnamed : named_before order i a ≡ false
        unnamed = n.named i a (omega arith) h ∙ le-ltb (get_or places a 0) i (omega (arith, free))

        new : (j : ℕ) → j < i + 1 → named_before order j (get_or order j 0) ≡ false
        new j m = go (ℕ_discrete j i)
          where
            go : Dec (j ≡ i) → named_before order j (get_or order j 0) ≡ false
            go (yes q) = rw q (subst (λ b. named_before order i b ≡ false) is unnamed)
            go (no q) = n.new j (omega arith)

        here : get_or (set places a i) a 0 ≡ i
        here = get_or-set_same places a i 0 h

        there : (b : ℕ) → ¬ (b ≡ a) → get_or (set places a i) b 0 ≡ get_or places b 0
        there b q = get_or-set_other places a b i 0 q

        only : (b : ℕ) → b < length places → (get_or (set places a i) b 0 < i + 1) ⊎ (get_or (set places a i) b 0 ≡ 65535)
        only b m = go (ℕ_discrete b a)
          where
            wider : (get_or places b 0 < i) ⊎ (get_or places b 0 ≡ 65535) → (get_or places b 0 < i + 1) ⊎ (get_or places b 0 ≡ 65535)
            wider (inl e) = inl (omega arith)
            wider (inr e) = inr e

            go : Dec (b ≡ a) → (get_or (set places a i) b 0 < i + 1) ⊎ (get_or (set places a i) b 0 ≡ 65535)
            go (yes q) = inl (rw q (omega (arith, here)))
            go (no q) = rw (there b q) (wider (n.only b m))

        -- the places up to i, and then all
        before : (j b : ℕ) → j ≤ i → b < length places → named_before order j b ≡ ltb (get_or (set places a i) b 0) j
        before j b m hb = go (ℕ_discrete b a)
          where
            go : Dec (b ≡ a) → named_before order j b ≡ ltb (get_or (set places a i) b 0) j
            go (yes q) =
                rw q
                (n.named j a m h ∙ le-ltb (get_or places a 0) j (omega (arith, free)) ∙ sym (le-ltb (get_or (set places a i) a 0) j (omega (arith, here))))
            go (no q) = n.named j b m hb ∙ ap (λ p. ltb p j) (sym (there b q))

        last : (b : ℕ) → b < length places → named_before order (i + 1) b ≡ ltb (get_or (set places a i) b 0) (i + 1)
        last b hb = go (ℕ_discrete b a)
          where
            go : Dec (b ≡ a) → named_before order (i + 1) b ≡ ltb (get_or (set places a i) b 0) (i + 1)
            go (yes q) = rw q (named_yes (i + 1) a i (omega arith) (sym is) ∙ sym (lt-ltb (get_or (set places a i) a 0) (i + 1) (omega (arith, here))))
            go (no q) =
                sym (named_next i b) ∙ ap (λ t. named_before order i b || t) (ne_eqb (get_or order i 0) b (λ e. q (sym e ∙ sym is)))
                ∙ or_false (named_before order i b) ∙ n.named i b (omega arith) hb ∙ same (n.only b hb) ∙ ap (λ p. ltb p (i + 1)) (sym (there b q))
              where
                or_false : (t : Bool) → t || false ≡ t
                or_false true = refl
                or_false false = refl

                same : (get_or places b 0 < i) ⊎ (get_or places b 0 ≡ 65535) → ltb (get_or places b 0) i ≡ ltb (get_or places b 0) (i + 1)
                same (inl e) = lt-ltb (get_or places b 0) i e ∙ sym (lt-ltb (get_or places b 0) (i + 1) (omega arith))
                same (inr e) = le-ltb (get_or places b 0) i (omega arith) ∙ sym (le-ltb (get_or places b 0) (i + 1) (omega arith))

        named : (j b : ℕ) → j ≤ i + 1 → b < length places → named_before order j b ≡ ltb (get_or (set places a i) b 0) j
        named j b m hb = go (dec_lt i j)
          where
            go : Dec (i < j) → named_before order j b ≡ ltb (get_or (set places a i) b 0) j
            go (yes q) = let z : j ≡ i + 1 = omega arith in rw z (last b hb)
            go (no q) = before j b (omega arith) hb

  -- ---- what noted places say of the first k entries
  module _ (k : ℕ) (places : List ℕ) (n : NotedTo order k places) where
    -- the entry at place i has place i
    pub place_is : (i : ℕ) → i < k → get_or order i 0 < length places → get_or places (get_or order i 0) 0 ≡ i
    place_is i l h =
        let a = get_or order i 0 in
        let up = ltb-true (get_or places a 0) (i + 1) (sym (n.named (i + 1) a (omega arith) h) ∙ named_yes (i + 1) a i (omega arith) refl) in
        omega (arith, up, not_less (get_or places a 0) i (sym (n.named i a (omega arith) h) ∙ n.new i l))
      where
        not_less : (p q : ℕ) → ltb p q ≡ false → q ≤ p
        not_less p q e = go (dec_lt p q)
          where
            go : Dec (p < q) → q ≤ p
            go (yes m) = absurd (not_both (lt-ltb p q m) e)
            go (no m) = omega arith

    -- and a macroblock whose place is one of theirs stands there
    pub place_at : (a : ℕ) → a < length places → get_or places a 0 < k → get_or order (get_or places a 0) 0 ≡ a
    place_at a h l =
        let p = get_or places a 0 in
        let f = named_is (p + 1) a (n.named (p + 1) a (omega arith) h ∙ lt-ltb p (p + 1) (omega arith)) in
        let low : ¬ (f.0 < p) = λ m. not_both (named_yes p a f.0 m f.2) (n.named p a (omega arith) h ∙ le-ltb p p (omega arith)) in
        let q : f.0 ≡ p = omega (arith, f.1) in
        sym (ap (λ j. get_or order j 0) q) ∙ f.2
