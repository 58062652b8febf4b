-- A map of done steps is closed and the memory is settled at each of them: whatever order led there. Assumes nothing.
use mathlib.Core.Path.{◌≡◌, refl, sym, ◌∙◌}
use mathlib.Core.Logic.{◌≢◌}
use mathlib.Core.List.{List, [], ◌∷◌}
use Prim.Native.Nat.{ℕ, zero, suc, ◌<◌}
use native.Mathlib.Nat.{lt_irrefl, lt_of_lt_of_le, lt_trans, le_refl, not-suc-le-zero, le_of_suc-le-suc}
use native.Mathlib.Decide.{ℕ_discrete}
use native.Mathlib.Omega.{arith}
use lib.ListN.{get_or, set, length, length-set, replicate}
use lib.Seq.{get_or-set_same, get_or-set_other}
use Rattle.order.specs.Order.{Alike, Laws, Done, Ready, build, marked, Permitted}

-- the map after one more step: that step is done, and the others are as before
pub done_here : (d : List ℕ) (a : ℕ) → a < length d → Done (set d a 1) a
done_here d a h = get_or-set_same d a 1 0 h

pub done_still : (d : List ℕ) (a b : ℕ) → a < length d → Done d b → Done (set d a 1) b
done_still d a b h e = go (ℕ_discrete b a)
  where
    go : Dec (b ≡ a) → Done (set d a 1) b
    go (yes q) = rw q (done_here d a h)
    go (no q) = get_or-set_other d a b 1 0 q ∙ e

pub done_before : (d : List ℕ) (a b : ℕ) → b ≢ a → Done (set d a 1) b → Done d b
done_before d a b q e = sym (get_or-set_other d a b 1 0 q) ∙ e

-- a list of zeros is 0 everywhere, so that in an empty map nothing is done
pub zero_at : (n b : ℕ) → get_or {A = ℕ} (replicate n 0) b 0 ≡ 0
zero_at zero b = refl
zero_at (suc n) zero = refl
zero_at (suc n) (suc b) = zero_at n b

pub none_done : (n b : ℕ) → ¬ Done (replicate n 0) b
none_done n b e = let z : ◌≡◌ {A = ℕ} 0 1 = sym (zero_at n b) ∙ e in omega arith

module _ {M I X : Type 0} {at : M → I → X} {ok : M → Type 0} {n : ℕ} {R : ℕ → I → Type 0} {N : ℕ → ℕ → Type 0} {step : ℕ → M → M}
    (L : Laws at ok n R N step) where
  -- a step done elsewhere leaves a region as it was
  pub elsewhere : (a b : ℕ) (p : M) → a < n → b < n → ok p → b ≢ a → Alike at (R b) p (step a p)
  elsewhere a b p ha hb k q i r = sym (L.writes a p i ha k (λ s. q (L.apart b a i hb ha r s)))

  -- taken again on what it led to, a step writes the same again
  again : (a : ℕ) (p : M) → a < n → ok p → Alike at (R a) (step a p) (step a (step a p))
  again a p h k =
      L.reads a p (step a p) h k (L.keeps a p h k)
      (λ b w. let e = L.earlier a b h w in elsewhere a b p h (lt_trans e h) k (λ q. lt_irrefl a (rw q at e)))

  -- At each done step: what it waits for is done, and its region holds what it would write there now
  pub record Settled (p : M) (d : List ℕ) : Type 0 where
    pub closed : (a : ℕ) → a < n → Done d a → Ready N d a
    pub fixed : (a : ℕ) → a < n → Done d a → Alike at (R a) p (step a p)

  pub settled_step : (a : ℕ) (p : M) (d : List ℕ) → a < n → ok p → length d ≡ n → ¬ Done d a → Ready N d a → Settled p d → Settled (step a p) (set d a 1)
  settled_step a p d ha k len undone ready s = record { closed = closed'; fixed = fixed' }
    where
      ha' : a < length d
      ha' = rw len ha

      closed' : (b : ℕ) → b < n → Done (set d a 1) b → Ready N (set d a 1) b
      closed' b hb e c w = done_still d a c ha' (go (ℕ_discrete b a))
        where
          go : Dec (b ≡ a) → Done d c
          go (yes q) = ready c (rw q at w)
          go (no q) = s.closed b hb (done_before d a b q e) c w

      fixed' : (b : ℕ) → b < n → Done (set d a 1) b → Alike at (R b) (step a p) (step b (step a p))
      fixed' b hb e i r = go (ℕ_discrete b a)
        where
          go : Dec (b ≡ a) → at (step a p) i ≡ at (step b (step a p)) i
          go (yes q) = rw q (again a p ha k i (rw q at r))
          go (no q) =
              let e' = done_before d a b q e in
              sym (elsewhere a b p ha hb k q i r) ∙ s.fixed b hb e' i r
              ∙ L.reads b p (step a p) hb k (L.keeps a p ha k)
              (λ c w. elsewhere a c p ha (lt_trans (L.earlier b c hb w) hb) k (λ q'. undone (rw q' at (s.closed b hb e' c w))))
              i r

  -- a memory over which nothing is done is settled
  pub settled_start : (p : M) → Settled p (replicate n 0)
  settled_start p = record { closed = λ a h e. absurd (none_done n a e); fixed = λ a h e. absurd (none_done n a e) }

  pub ok_run : (o : List ℕ) (p : M) (d : List ℕ) → ok p → Permitted n N o d → ok (build step o p)
  ok_run [] p d k t = k
  ok_run (a ∷ o) p d k t = ok_run o (step a p) (set d a 1) (L.keeps a p t.0 k) t.3

  pub settled_run : (o : List ℕ) (p : M) (d : List ℕ) → ok p → length d ≡ n → Permitted n N o d → Settled p d → Settled (build step o p) (marked o d)
  settled_run [] p d k len t s = s
  settled_run (a ∷ o) p d k len t s =
      settled_run o (step a p) (set d a 1) (L.keeps a p t.0 k) (length-set d a 1 ∙ len) t.3
      (settled_step a p d t.0 k len t.1 t.2 s)

  -- a place in no region keeps what it held
  pub untouched : (o : List ℕ) (p : M) (d : List ℕ) → ok p → Permitted n N o d → (i : I) → ((a : ℕ) → a < n → ¬ R a i) → at (build step o p) i ≡ at p i
  untouched [] p d k t i h = refl
  untouched (a ∷ o) p d k t i h =
      untouched o (step a p) (set d a 1) (L.keeps a p t.0 k) t.3 i h ∙ L.writes a p i t.0 k (h a t.0)

  -- Two settled memories agree on a set S of steps that is closed under waiting and done in both
  pub agree_on : (p q : M) (d e : List ℕ) → ok p → ok q → Settled p d → Settled q e
      → (S : ℕ → Type 0) → ((a b : ℕ) → S a → N a b → S b) → ((a : ℕ) → S a → Done d a × Done e a) → (a : ℕ) → a < n → S a → Alike at (R a) p q
  agree_on p q d e kp kq sp sq S cl dn a ha sa = go (suc a) a (le_refl (suc a)) ha sa
    where
      go : (k a : ℕ) → a < k → a < n → S a → Alike at (R a) p q
      go zero a h ha sa i r = absurd (not-suc-le-zero h)
      go (suc k) a h ha sa i r =
          sp.fixed a ha (dn a sa).0 i r
          ∙ L.reads a p q ha kp kq
          (λ b w. let lt = L.earlier a b ha w in go k b (lt_of_lt_of_le lt (le_of_suc-le-suc h)) (lt_trans lt ha) (cl a b sa w)) i r
          ∙ sym (sq.fixed a ha (dn a sa).1 i r)
