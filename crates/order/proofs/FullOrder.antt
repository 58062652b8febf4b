-- A full order is a permitted order that fills an empty map, and so one of n steps that is permitted. Assumes nothing.
use mathlib.Core.Path.{◌≡◌, sym, subst, ◌∙◌}
use mathlib.Core.Logic.{◌⊎◌, inl, inr}
use mathlib.Core.List.{List, [], ◌∷◌}
use Prim.Native.Nat.{ℕ, zero, suc, ◌+◌, ◌<◌}
use native.Mathlib.Nat.{not-suc-le-zero, le_of_suc-le-suc}
use native.Mathlib.Decide.{ℕ_discrete}
use native.Mathlib.Omega.{arith}
use lib.ListN.{get_or, set, length, length-set, replicate, length-replicate}
use Rattle.order.specs.FullOrder.{InPlace, FullOrder}
use Rattle.order.specs.Lists.{Names}
use Rattle.order.specs.Order.{Done, AllDone, Ready, marked, Permitted, ones}
use Rattle.order.proofs.Count.{ones_none, ones_set, full_done, done_full}
use Rattle.order.proofs.Lists.{place_names, names_place}
use Rattle.order.proofs.Orders.{length_marked, marked_named, marked_only}
use Rattle.order.proofs.Settled.{done_here, done_still, done_before, none_done}

-- fewer steps to wait for
pub full_fewer : {n : ℕ} {N P : ℕ → ℕ → Type 0} {o : List ℕ} → ((a b : ℕ) → a < n → P a b → N a b) → FullOrder n N o → FullOrder n P o
full_fewer {n} {N} {P} {o} less f = record {
  inside = f.inside;
  every = f.every;
  each = λ i h. record { new = (f.each i h).new; after = λ b w. (f.each i h).after b (less (get_or o i 0) b (f.inside i h) w) };
}

module _ (n : ℕ) (N : ℕ → ℕ → Type 0) where
  -- ---- over a map d in which some steps are done already
  record From (o d : List ℕ) : Type 0 where
    pub inside : (i : ℕ) → i < length o → get_or o i 0 < n
    pub fresh : (i : ℕ) → i < length o → ¬ Done d (get_or o i 0)
    pub new : (i j : ℕ) → i < length o → j < i → ¬ (get_or o j 0 ≡ get_or o i 0)
    pub after : (i b : ℕ) → i < length o → N (get_or o i 0) b → Done d b ⊎ ((j : ℕ) × (j < i) × (get_or o j 0 ≡ b))

  permitted_from : (o d : List ℕ) → length d ≡ n → Permitted n N o d → From o d
  permitted_from [] d len t = record {
    inside = λ i h. absurd (not-suc-le-zero h);
    fresh = λ i h. absurd (not-suc-le-zero h);
    new = λ i j h l. absurd (not-suc-le-zero h);
    after = λ i b h. absurd (not-suc-le-zero h);
  }
  permitted_from (a ∷ o) d len t = step (permitted_from o (set d a 1) (length-set d a 1 ∙ len) t.3)
    where
      ha : a < length d
      ha = rw len t.0

      step : From o (set d a 1) → From (a ∷ o) d
      step f = record { inside = inside; fresh = fresh; new = new; after = after }
        where
          inside : (i : ℕ) → i < suc (length o) → get_or (a ∷ o) i 0 < n
          inside zero h = t.0
          inside (suc i) h = f.inside i (le_of_suc-le-suc h)

          fresh : (i : ℕ) → i < suc (length o) → ¬ Done d (get_or (a ∷ o) i 0)
          fresh zero h e = t.1 e
          fresh (suc i) h e = f.fresh i (le_of_suc-le-suc h) (done_still d a (get_or o i 0) ha e)

          new : (i j : ℕ) → i < suc (length o) → j < i → ¬ (get_or (a ∷ o) j 0 ≡ get_or (a ∷ o) i 0)
          new zero j h l e = not-suc-le-zero l
          new (suc i) zero h l e = f.fresh i (le_of_suc-le-suc h) (subst (Done (set d a 1)) e (done_here d a ha))
          new (suc i) (suc j) h l e = f.new i j (le_of_suc-le-suc h) (le_of_suc-le-suc l) e

          after : (i b : ℕ) → i < suc (length o) → N (get_or (a ∷ o) i 0) b → Done d b ⊎ ((j : ℕ) × (j < i) × (get_or (a ∷ o) j 0 ≡ b))
          after zero b h w = inl (t.2 b w)
          after (suc i) b h w = go (f.after i b (le_of_suc-le-suc h) w) (ℕ_discrete b a)
            where
              go : Done (set d a 1) b ⊎ ((j : ℕ) × (j < i) × (get_or o j 0 ≡ b)) → Dec (b ≡ a) → Done d b ⊎ ((j : ℕ) × (j < suc i) × (get_or (a ∷ o) j 0 ≡ b))
              go (inl e) (yes q) = inr (0, omega arith, sym q)
              go (inl e) (no q) = inl (done_before d a b q e)
              go (inr (j, l, e)) q = inr (suc j, omega arith, e)

  from_permitted : (o d : List ℕ) → length d ≡ n → From o d → Permitted n N o d
  from_permitted [] d len f = tt
  from_permitted (a ∷ o) d len f =
      (f.inside 0 (omega arith), f.fresh 0 (omega arith), ready, from_permitted o (set d a 1) (length-set d a 1 ∙ len) rest)
    where
      ha : a < length d
      ha = rw len (f.inside 0 (omega arith))

      ready : Ready N d a
      ready b w = go (f.after 0 b (omega arith) w)
        where
          go : Done d b ⊎ ((j : ℕ) × (j < 0) × (get_or (a ∷ o) j 0 ≡ b)) → Done d b
          go (inl e) = e
          go (inr (j, l, e)) = absurd (not-suc-le-zero l)

      rest : From o (set d a 1)
      rest = record {
        inside = λ i h. f.inside (suc i) (omega arith);
        fresh = λ i h e. f.fresh (suc i) (omega arith) (done_before d a (get_or o i 0) (λ q. f.new (suc i) 0 (omega arith) (omega arith) (sym q)) e);
        new = λ i j h l. f.new (suc i) (suc j) (omega arith) (omega arith);
        after = λ i b h w. go i b (f.after (suc i) b (omega arith) w);
      }
        where
          go : (i b : ℕ) → Done d b ⊎ ((j : ℕ) × (j < suc i) × (get_or (a ∷ o) j 0 ≡ b)) → Done (set d a 1) b ⊎ ((j : ℕ) × (j < i) × (get_or o j 0 ≡ b))
          go i b (inl e) = inl (done_still d a b ha e)
          go i b (inr (zero, l, e)) = inl (subst (Done (set d a 1)) e (done_here d a ha))
          go i b (inr (suc j, l, e)) = inr (j, le_of_suc-le-suc l, e)

  -- ---- over an empty map
  placed_permitted : (o : List ℕ) → ((i : ℕ) → i < length o → get_or o i 0 < n) → ((i : ℕ) → i < length o → InPlace N o i) → Permitted n N o (replicate n 0)
  placed_permitted o inside each =
      from_permitted o (replicate n 0) (length-replicate n 0) (record {
        inside = inside;
        fresh = λ i h. none_done n (get_or o i 0);
        new = λ i j h. (each i h).new j;
        after = λ i b h w. inr ((each i h).after b w);
      })

  pub full_permitted : (o : List ℕ) → FullOrder n N o → Permitted n N o (replicate n 0)
  full_permitted o f = placed_permitted o f.inside f.each

  pub full_finishes : (o : List ℕ) → FullOrder n N o → AllDone n (marked o (replicate n 0))
  full_finishes o f a h =
      marked_named o (replicate n 0) a (λ b m. let p = names_place o b m in rw length-replicate (subst (λ c. c < n) p.2 (f.inside p.0 p.1)))
      (let p = f.every a h in subst (Names o) p.2 (place_names o p.0 p.1))

  pub permitted_full : (o : List ℕ) → Permitted n N o (replicate n 0) → AllDone n (marked o (replicate n 0)) → FullOrder n N o
  permitted_full o t all = record { inside = f.inside; every = every; each = λ i h. record { new = λ j. f.new i j h; after = after i h } }
    where
      f : From o (replicate n 0)
      f = permitted_from o (replicate n 0) (length-replicate n 0) t

      every : (a : ℕ) → a < n → (i : ℕ) × (i < length o) × (get_or o i 0 ≡ a)
      every a h = go (marked_only o (replicate n 0) a (all a h))
        where
          go : Done (replicate n 0) a ⊎ Names o a → (i : ℕ) × (i < length o) × (get_or o i 0 ≡ a)
          go (inl e) = absurd (none_done n a e)
          go (inr m) = names_place o a m

      after : (i : ℕ) → i < length o → (b : ℕ) → N (get_or o i 0) b → (j : ℕ) × (j < i) × (get_or o j 0 ≡ b)
      after i h b w = go (f.after i b h w)
        where
          go : Done (replicate n 0) b ⊎ ((j : ℕ) × (j < i) × (get_or o j 0 ≡ b)) → (j : ℕ) × (j < i) × (get_or o j 0 ≡ b)
          go (inl e) = absurd (none_done n b e)
          go (inr p) = p

  -- ---- by its length
  ones_permitted : (o d : List ℕ) → length d ≡ n → Permitted n N o d → ones (marked o d) ≡ ones d + length o
  ones_permitted [] d len t = omega arith
  ones_permitted (a ∷ o) d len t = omega (arith, ones_permitted o (set d a 1) (length-set d a 1 ∙ len) t.3, ones_set d a (rw len t.0) t.1)

  counted : (o : List ℕ) → Permitted n N o (replicate n 0) → ones (marked o (replicate n 0)) ≡ length o
  counted o t = omega (arith, ones_permitted o (replicate n 0) (length-replicate n 0) t, ones_none n)

  long : (o : List ℕ) → length (marked o (replicate n 0)) ≡ n
  long o = length_marked o (replicate n 0) ∙ length-replicate n 0

  -- a permitted order fills the map exactly where it has n steps
  pub long_finishes : (o : List ℕ) → Permitted n N o (replicate n 0) → length o ≡ n → AllDone n (marked o (replicate n 0))
  long_finishes o t len a h = full_done (marked o (replicate n 0)) (omega (arith, counted o t, long o)) a (omega (arith, long o))

  pub finishes_long : (o : List ℕ) → Permitted n N o (replicate n 0) → AllDone n (marked o (replicate n 0)) → length o ≡ n
  finishes_long o t all =
      omega (arith, counted o t, long o, done_full (marked o (replicate n 0)) (λ a h. all a (omega (arith, long o))))

  pub full_long : (o : List ℕ) → FullOrder n N o → length o ≡ n
  full_long o f = finishes_long o (full_permitted o f) (full_finishes o f)

  -- where each of n places is in place, nothing is left out
  pub each_full : (o : List ℕ) → length o ≡ n → ((i : ℕ) → i < length o → get_or o i 0 < n) → ((i : ℕ) → i < length o → InPlace N o i) → FullOrder n N o
  each_full o len inside each = let t = placed_permitted o inside each in permitted_full o t (long_finishes o t len)
