-- A permitted order leaves, at each step that is done, what the order 0, 1, .., n - 1 leaves there: both ends are settled. Assumes nothing.
use mathlib.Core.Path.{◌≡◌, sym, ap, subst, ◌∙◌}
use mathlib.Core.List.{List}
use Prim.Native.Nat.{ℕ, ◌<◌}
use native.Mathlib.Nat.{lt_trans}
use lib.ListN.{replicate, length-replicate}
use Rattle.laws.specs.Steps.{up_to}
use Rattle.order.specs.Order.{Alike, Laws, Done, AllDone, build, marked, Permitted, raster}
use Rattle.order.proofs.Settled.{Settled, settled_start, settled_run, ok_run, untouched, agree_on}
use Rattle.order.proofs.Raster.{raster_permitted, raster_done, build_raster}

module _ {M I X : Type 0} {at : M → I → X} {ok : M → Type 0} {n : ℕ} {R : ℕ → I → Type 0} {N : ℕ → ℕ → Type 0} {step : ℕ → M → M}
    (L : Laws at ok n R N step) where
  in_turn_lem : Permitted n N (raster n) (replicate n 0)
  in_turn_lem = raster_permitted n N L.earlier

  settled_after : (o : List ℕ) (p : M) → ok p → Permitted n N o (replicate n 0) → Settled L (build step o p) (marked o (replicate n 0))
  settled_after o p k t = settled_run L o p (replicate n 0) k (length-replicate n 0) t (settled_start L p)

  -- also half way, and whatever the two memories held before
  pub done_agrees : (o : List ℕ) (p q : M) → ok p → ok q → Permitted n N o (replicate n 0)
      → (a : ℕ) → a < n → Done (marked o (replicate n 0)) a → Alike at (R a) (build step o p) (up_to step n q)
  done_agrees o p q kp kq t a ha dn i r =
      agree_on L (build step o p) (build step (raster n) q) (marked o (replicate n 0)) (marked (raster n) (replicate n 0))
      (ok_run L o p (replicate n 0) kp t) (ok_run L (raster n) q (replicate n 0) kq in_turn_lem) (settled_after o p kp t) (settled_after (raster n) q kq in_turn_lem)
      (λ b. (b < n) × Done (marked o (replicate n 0)) b)
      (λ b c h w. (lt_trans (L.earlier b c h.0 w) h.0, (settled_after o p kp t).closed b h.0 h.1 c w))
      (λ b h. (h.1, raster_done n b h.0)) a ha (ha, dn) i r
      ∙ ap (λ m. at m i) (build_raster step n q)

  -- where it can be told of each place whether it lies in a region, and all is done: the same at every place
  pub any_order : ((i : I) → Dec ((a : ℕ) × (a < n) × R a i)) → (o : List ℕ) (p : M) → ok p → Permitted n N o (replicate n 0) → AllDone n (marked o (replicate n 0))
      → (i : I) → at (build step o p) i ≡ at (up_to step n p) i
  any_order tell o p k t all i = go (tell i)
    where
      go : Dec ((a : ℕ) × (a < n) × R a i) → at (build step o p) i ≡ at (up_to step n p) i
      go (yes h) = done_agrees o p p k k t h.0 h.1 (all h.0 h.1) i h.2
      go (no h) =
          let out : (a : ℕ) → a < n → ¬ R a i = λ a l r. h (a, l, r) in
          untouched L o p (replicate n 0) k t i out ∙ sym (untouched L (raster n) p (replicate n 0) k in_turn_lem i out) ∙ ap (λ m. at m i) (build_raster step n p)

  pub ok_steps : (p : M) → ok p → ok (up_to step n p)
  ok_steps p k = subst ok (build_raster step n p) (ok_run L (raster n) p (replicate n 0) k in_turn_lem)

  -- taken again on what all have led to, each writes the same again
  pub fixed_steps : (p : M) → ok p → (a : ℕ) → a < n → Alike at (R a) (up_to step n p) (step a (up_to step n p))
  fixed_steps p k a h =
      subst (λ m. Alike at (R a) m (step a m)) (build_raster step n p) ((settled_after (raster n) p k in_turn_lem).fixed a h (raster_done n a h))
