-- Orders joined, the map that they leave, and what is undone before them. Assumes nothing.
use mathlib.Core.Path.{◌≡◌, refl, sym, subst, ◌∙◌}
use mathlib.Core.Logic.{◌⊎◌, inl, inr}
use mathlib.Core.List.{List, [], ◌∷◌, ◌++◌}
use Prim.Native.Nat.{ℕ, ◌<◌}
use native.Mathlib.Decide.{ℕ_discrete}
use lib.ListN.{set, length, length-set}
use Rattle.order.specs.Lists.{Names}
use Rattle.order.specs.Order.{Done, build, marked, Permitted}
use Rattle.order.proofs.Settled.{done_here, done_still, done_before}

pub permitted_append : (n : ℕ) (N : ℕ → ℕ → Type 0) (o u d : List ℕ) → Permitted n N o d → Permitted n N u (marked o d) → Permitted n N (o ++ u) d
permitted_append n N [] u d t v = v
permitted_append n N (a ∷ o) u d t v = (t.0, t.1, t.2, permitted_append n N o u (set d a 1) t.3 v)

-- what is permitted with more to wait for is permitted with less
pub permitted_fewer : (n : ℕ) (N P : ℕ → ℕ → Type 0) → ((a b : ℕ) → P a b → N a b) → (o d : List ℕ) → Permitted n N o d → Permitted n P o d
permitted_fewer n N P less [] d t = tt
permitted_fewer n N P less (a ∷ o) d t = (t.0, t.1, (λ b w. t.2 b (less a b w)), permitted_fewer n N P less o (set d a 1) t.3)

pub marked_append : (o u d : List ℕ) → marked (o ++ u) d ≡ marked u (marked o d)
marked_append [] u d = refl
marked_append (a ∷ o) u d = marked_append o u (set d a 1)

pub build_append : {M : Type 0} (step : ℕ → M → M) (o u : List ℕ) (p : M) → build step (o ++ u) p ≡ build step u (build step o p)
build_append step [] u p = refl
build_append step (a ∷ o) u p = build_append step o u (step a p)

pub length_marked : (o d : List ℕ) → length (marked o d) ≡ length d
length_marked [] d = refl
length_marked (a ∷ o) d = length_marked o (set d a 1) ∙ length-set d a 1

-- the map that a list leaves: what was done stays so, what the list names is done, and nothing else
pub marked_still : (o d : List ℕ) (a : ℕ) → ((b : ℕ) → Names o b → b < length d) → Done d a → Done (marked o d) a
marked_still [] d a inside e = e
marked_still (b ∷ o) d a inside e =
    marked_still o (set d b 1) a (λ c n. rw length-set (inside c (inr n))) (done_still d b a (inside b (inl refl)) e)

pub marked_named : (o d : List ℕ) (a : ℕ) → ((b : ℕ) → Names o b → b < length d) → Names o a → Done (marked o d) a
marked_named [] d a inside x'' = elim x'' [ ]
marked_named (b ∷ o) d a inside (inl e) =
    marked_still o (set d b 1) a (λ c n. rw length-set (inside c (inr n))) (rw e (done_here d b (inside b (inl refl))))
marked_named (b ∷ o) d a inside (inr n) = marked_named o (set d b 1) a (λ c m. rw length-set (inside c (inr m))) n

pub marked_only : (o d : List ℕ) (a : ℕ) → Done (marked o d) a → Done d a ⊎ Names o a
marked_only [] d a e = inl e
marked_only (b ∷ o) d a e = go (marked_only o (set d b 1) a e) (ℕ_discrete a b)
  where
    go : Done (set d b 1) a ⊎ Names o a → Dec (a ≡ b) → Done d a ⊎ Names (b ∷ o) a
    go (inl g) (yes q) = inr (inl q)
    go (inl g) (no q) = inl (done_before d b a q g)
    go (inr n) q = inr (inr n)

-- the steps of a permitted order are undone before it
pub permitted_undone : (n : ℕ) (N : ℕ → ℕ → Type 0) (o d : List ℕ) → length d ≡ n → Permitted n N o d → (a : ℕ) → Names o a → (a < n) × ¬ Done d a
permitted_undone n N [] d len t a x3 = elim x3 [ ]
permitted_undone n N (b ∷ o) d len t a (inl e) = subst (λ c. (c < n) × ¬ Done d c) (sym e) (t.0, t.1)
permitted_undone n N (b ∷ o) d len t a (inr m) =
    let p = permitted_undone n N o (set d b 1) (length-set d b 1 ∙ len) t.3 a m in
    (p.0, λ e. p.1 (done_still d b a (rw len t.0) e))
