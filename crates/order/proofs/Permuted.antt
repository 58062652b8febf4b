-- Steps that are all undone and ready, of which none waits for another, may come in any order: each is permitted, and the same memory and map are left.
-- Assumes nothing.
use mathlib.Core.Path.{◌≡◌, refl, sym, ap, subst, ◌∙◌}
use mathlib.Core.Logic.{◌≢◌, inl, inr}
use mathlib.Core.List.{List, [], ◌∷◌}
use Prim.Native.Nat.{ℕ, ◌<◌}
use native.Mathlib.Nat.{lt_trans}
use native.Mathlib.Decide.{ℕ_discrete}
use lib.ListN.{set, length, length-set}
use lib.Seq.{set_comm}
use Rattle.order.specs.Lists.{Names, Distinct, Permutes}
use Rattle.order.specs.Lists.Permutes.{none, keep, swap, join}
use Rattle.order.specs.Order.{Alike, Laws, Done, Ready, build, marked, Permitted}
use Rattle.order.proofs.Lists.{names_permuted}
use Rattle.order.proofs.Settled.{done_still, done_before, elsewhere}

-- ---- permitted
pub all_permitted : (n : ℕ) (N : ℕ → ℕ → Type 0) (o d : List ℕ) → length d ≡ n → Distinct o → ((a : ℕ) → Names o a → (a < n) × (¬ Done d a) × Ready N d a)
    → Permitted n N o d
all_permitted n N [] d len u f = tt
all_permitted n N (a ∷ o) d len u f = (
  h.0,
  h.1,
  h.2,
  all_permitted n N o (set d a 1) (length-set d a 1 ∙ len) u.1 (λ b m. let g = f b (inr m) in
      (g.0, (λ e. g.1 (done_before d a b (λ q. u.0 (subst (Names o) q m)) e)), (λ c w. done_still d a c (rw len h.0) (g.2 c w)))),
)
  where
    h : (a < n) × (¬ Done d a) × Ready N d a
    h = f a (inl refl)

-- ---- the map
set_twice : (d : List ℕ) (a b : ℕ) → set (set d a 1) b 1 ≡ set (set d b 1) a 1
set_twice d a b = go (ℕ_discrete a b)
  where
    go : Dec (a ≡ b) → set (set d a 1) b 1 ≡ set (set d b 1) a 1
    go (yes e) = rw e
    go (no n) = set_comm d a b 1 1 n

pub marked_permuted : {o l : List ℕ} → Permutes o l → (d : List ℕ) → marked o d ≡ marked l d
marked_permuted none d = refl
marked_permuted (keep a p) d = marked_permuted p (set d a 1)
marked_permuted (swap a b l) d = ap (marked l) (set_twice d a b)
marked_permuted (join p q) d = marked_permuted p d ∙ marked_permuted q d

-- ---- the memory
module _ {M I X : Type 0} {at : M → I → X} {ok : M → Type 0} {n : ℕ} {R : ℕ → I → Type 0} {N : ℕ → ℕ → Type 0} {step : ℕ → M → M}
    (L : Laws at ok n R N step) where
  -- where a does not wait for b, it writes the same before b and after it
  reads_past : (a b : ℕ) (p : M) → a < n → b < n → ok p → ¬ N a b → Alike at (R a) (step a p) (step a (step b p))
  reads_past a b p ha hb k free =
      L.reads a p (step b p) ha k (L.keeps b p hb k)
      (λ c w. elsewhere L b c p hb (lt_trans (L.earlier a c ha w) ha) k (λ q. free (subst (N a) q w)))

  -- in its own region, and then in those of both and outside
  swap_in : (a b : ℕ) (p : M) → a < n → b < n → ok p → a ≢ b → ¬ N a b → Alike at (R a) (step b (step a p)) (step a (step b p))
  swap_in a b p ha hb k q free i r =
      L.writes b (step a p) i hb (L.keeps a p ha k) (λ s. q (L.apart a b i ha hb r s)) ∙ reads_past a b p ha hb k free i r

  module _ (tell : (i : I) → Dec ((a : ℕ) × (a < n) × R a i)) where
    steps_swap : (a b : ℕ) (p : M) → a < n → b < n → ok p → ¬ N a b → ¬ N b a → (i : I) → at (step b (step a p)) i ≡ at (step a (step b p)) i
    steps_swap a b p ha hb k fa fb i = go (ℕ_discrete a b) (tell i)
      where
        out : ¬ R a i → ¬ R b i → at (step b (step a p)) i ≡ at (step a (step b p)) i
        out ra rb =
            L.writes b (step a p) i hb (L.keeps a p ha k) rb ∙ L.writes a p i ha k ra
            ∙ sym (L.writes a (step b p) i ha (L.keeps b p hb k) ra ∙ L.writes b p i hb k rb)

        go : Dec (a ≡ b) → Dec ((c : ℕ) × (c < n) × R c i) → at (step b (step a p)) i ≡ at (step a (step b p)) i
        go (yes e) t = rw e
        go (no q) (no f) = out (λ r. f (a, ha, r)) (λ r. f (b, hb, r))
        go (no q) (yes (c, hc, r)) = by (ℕ_discrete c a) (ℕ_discrete c b)
          where
            by : Dec (c ≡ a) → Dec (c ≡ b) → at (step b (step a p)) i ≡ at (step a (step b p)) i
            by (yes e) g = swap_in a b p ha hb k q fa i (subst (λ d. R d i) e r)
            by (no e) (yes g) = sym (swap_in b a p hb ha k (λ z. q (sym z)) fb i (subst (λ d. R d i) g r))
            by (no e) (no g) = out (λ s. e (L.apart c a i hc ha r s)) (λ s. g (L.apart c b i hc hb r s))

    -- where memories that are alike everywhere are the same
    pub build_permuted : ((p q : M) → ok p → ok q → ((i : I) → at p i ≡ at q i) → p ≡ q) → {o l : List ℕ} → Permutes o l → ((a : ℕ) → Names l a → a < n)
        → ((a b : ℕ) → Names l a → Names l b → ¬ N a b) → (p : M) → ok p → build step o p ≡ build step l p
    build_permuted same none inside free p k = refl
    build_permuted same (keep a t) inside free p k =
        build_permuted same t (λ c m. inside c (inr m)) (λ c d m m'. free c d (inr m) (inr m')) (step a p) (L.keeps a p (inside a (inl refl)) k)
    build_permuted same (swap a b l) inside free p k =
        let ha = inside a (inr (inl refl)) in
        let hb = inside b (inl refl) in
        ap (build step l) (same (step b (step a p)) (step a (step b p)) (L.keeps b (step a p) hb (L.keeps a p ha k)) (L.keeps a (step b p) ha (L.keeps b p hb k))
        (steps_swap a b p ha hb k (free a b (inr (inl refl)) (inl refl)) (free b a (inl refl) (inr (inl refl)))))
    build_permuted same (join t u) inside free p k =
        build_permuted same t (λ c m. inside c (names_permuted u c m)) (λ c d m m'. free c d (names_permuted u c m) (names_permuted u d m')) p k
        ∙ build_permuted same u inside free p k
