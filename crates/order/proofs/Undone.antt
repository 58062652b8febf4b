-- What a map leaves undone, the smallest first, is a permitted order that fills it: a step waits for smaller ones, and those are done by then. Assumes nothing.
use mathlib.Core.Path.{◌≡◌, refl, sym, ap, subst, ◌∙◌}
use mathlib.Core.Bool.{Bool, true, false}
use mathlib.Core.Logic.{◌⊎◌, inl, inr, ⊎_elim}
use mathlib.Core.List.{List, [], ◌∷◌}
use Prim.Native.Nat.{ℕ, zero, suc, ◌+◌, ◌<◌}
use native.Mathlib.Nat.{not-suc-le-zero, add-zero}
use native.Mathlib.Decide.{ℕ_discrete}
use native.Mathlib.Omega.{arith}
use lib.Dec.{eqb}
use lib.ListN.{get_or, length, set, length-set}
use lib.Seq.{get_or-set_other}
use borrow.Author.Tests.{eqb-true, eqb-false}
use Rattle.order.specs.Order.{Done, AllDone, First, marked, Permitted, undone_from}
use Rattle.order.proofs.Settled.{done_here, done_still}

done_more : (d : List ℕ) (k : ℕ) → AllDone k d → Done d k → AllDone (suc k) d
done_more d k all e b h = go (ℕ_discrete b k)
  where
    go : Dec (b ≡ k) → Done d b
    go (yes q) = subst (Done d) (sym q) e
    go (no q) = all b (omega arith)

-- a map is full, or has a first undone byte
first_of : (d : List ℕ) (n : ℕ) → AllDone n d ⊎ ((a : ℕ) × First n d a)
first_of d zero = inl (λ a h. absurd (not-suc-le-zero h))
first_of d (suc n) = go (first_of d n) (ℕ_discrete (get_or d n 0) 1)
  where
    go : AllDone n d ⊎ ((a : ℕ) × First n d a) → Dec (Done d n) → AllDone (suc n) d ⊎ ((a : ℕ) × First (suc n) d a)
    go (inl all) (yes e) = inl (done_more d n all e)
    go (inl all) (no f) = inr (n, record { inside = omega arith; undone = f; below = all })
    go (inr (a, f)) e = inr (a, record { inside = omega (arith, f.inside); undone = f.undone; below = f.below })

pub some_first : (d : List ℕ) (n : ℕ) → ¬ AllDone n d → (a : ℕ) × First n d a
some_first d n f = ⊎_elim (λ all. absurd (f all)) (λ a. a) (first_of d n)

module _ (n : ℕ) (N : ℕ → ℕ → Type 0) (earlier : (a b : ℕ) → a < n → N a b → b < a) where
  -- for a map m that is done below k, and is d from there on
  abbrev Filling : List ℕ → ℕ → Type 0
  Filling d k =
      (m : List ℕ) → length m ≡ n → k + length d ≡ n → AllDone k m → ((i : ℕ) → get_or m (k + i) 0 ≡ get_or d i 0)
      → Permitted n N (undone_from k d) m × AllDone n (marked (undone_from k d) m)

  filling : (d : List ℕ) (k : ℕ) → Filling d k
  filling [] k m long e below same = (tt, λ a h. below a (omega arith))
  filling (x ∷ d) k m long e below same = go (filling d (suc k)) (eqb x 1) refl
    where
      now : get_or m k 0 ≡ x
      now = ap (λ j. get_or m j 0) (sym (add-zero k)) ∙ same 0

      inside : k < n
      inside = omega arith

      next : (i : ℕ) → get_or m (suc k + i) 0 ≡ get_or d i 0
      next i = ap (λ j. get_or m j 0) (omega arith) ∙ same (suc i)

      go : Filling d (suc k) → (b : Bool) → eqb x 1 ≡ b → let o = undone_from k (x ∷ d) in Permitted n N o m × AllDone n (marked o m)
      go ih true t = rw t (ih m long (omega arith) (done_more m k below (now ∙ eqb-true x 1 t)) next)
      go ih false f =
          let more =
          ih (set m k 1) (length-set m k 1 ∙ long) (omega arith)
          (done_more (set m k 1) k (λ b h. done_still m k b (omega (arith, long)) (below b h)) (done_here m k (omega (arith, long))))
          (λ i. get_or-set_other m k (suc k + i) 1 0 (omega arith) ∙ next i) in
          rw f ((inside, (λ u. eqb-false x 1 f (sym now ∙ u)), (λ b w. below b (earlier k b inside w)), more.0), more.1)

  pub undone_fills : (d : List ℕ) → length d ≡ n → Permitted n N (undone_from 0 d) d × AllDone n (marked (undone_from 0 d) d)
  undone_fills d long = filling d 0 d long (omega arith) (λ b h. absurd (not-suc-le-zero h)) (λ i. ap (λ j. get_or d j 0) (omega arith))
