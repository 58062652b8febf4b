-- The two laws of a step from those of its parts. Assumes nothing.
use mathlib.Core.Path.{◌≡◌, refl, sym, ap, ◌∙◌}
use Prim.Native.Nat.{ℕ, zero, suc, ◌<◌, ◌≤◌}
use native.Mathlib.Nat.{le_refl, not-suc-le-zero, le_of_suc-le, lt_of_lt_of_le}
use native.Mathlib.Decide.{ℕ_discrete}
use native.Mathlib.Omega.{arith}
use Rattle.laws.specs.Steps.{up_to}
use Rattle.order.specs.Order.{Alike}
use Rattle.order.specs.Parts.{Parts}

module _ {M I X : Type 0} {at : M → I → X} {ok : M → Type 0} {E : I → Type 0} {n : ℕ} {R : ℕ → I → Type 0} {part : ℕ → M → M}
    (B : Parts at ok E n R part) where
  abbrev first : ℕ → M → M
  first k p = up_to part k p

  first_suc : (k : ℕ) (p : M) → first (suc k) p ≡ part k (first k p)
  unfolding up_to
  first_suc k p = refl

  first_keeps : (k : ℕ) (p : M) → k ≤ n → ok p → ok (first k p)
  unfolding up_to
  first_keeps zero p h o = o
  first_keeps (suc k) p h o = rw (first_suc k p) (B.keeps k (first k p) h (first_keeps k p (le_of_suc-le h) o))

  first_writes : (k : ℕ) (p : M) (i : I) → k ≤ n → ok p → ((j : ℕ) → j < k → ¬ R j i) → at (first k p) i ≡ at p i
  unfolding up_to
  first_writes zero p i h o out = refl
  first_writes (suc k) p i h o out =
      ap (λ m. at m i) (first_suc k p) ∙ B.writes k (first k p) i h (first_keeps k p (le_of_suc-le h) o) (out k (le_refl (suc k)))
      ∙ first_writes k p i (le_of_suc-le h) o (λ j l. out j (omega arith))

  first_outside : (k : ℕ) (p : M) → k ≤ n → ok p → Alike at E (first k p) p
  first_outside k p h o i e = first_writes k p i h o (λ j l r. B.outside j i (lt_of_lt_of_le l h) r e)

  -- after k parts the two memories agree on all that these wrote
  first_reads : (k : ℕ) (p q : M) → k ≤ n → ok p → ok q → Alike at E p q → (j : ℕ) → j < k → Alike at (R j) (first k p) (first k q)
  first_reads zero p q h op oq e j l i r = absurd (not-suc-le-zero l)
  first_reads (suc k) p q h op oq e j l i r = rw (first_suc k p, first_suc k q) (go (ℕ_discrete j k) (first_reads k p q (le_of_suc-le h) op oq e))
    where
      h' : k ≤ n
      h' = le_of_suc-le h

      kp : ok (first k p)
      kp = first_keeps k p h' op

      kq : ok (first k q)
      kq = first_keeps k q h' oq

      out : Alike at E (first k p) (first k q)
      out i x = first_outside k p h' op i x ∙ e i x ∙ sym (first_outside k q h' oq i x)

      go : Dec (j ≡ k) → ((m : ℕ) → m < k → Alike at (R m) (first k p) (first k q)) → at (part k (first k p)) i ≡ at (part k (first k q)) i
      go (yes d) ih = B.reads k (first k p) (first k q) h kp kq out ih i (rw d at r)
      go (no d) ih =
          let x : ¬ R k i = λ r'. d (B.apart j k i (lt_of_lt_of_le l h) h r r') in
          B.writes k (first k p) i h kp x ∙ ih j (omega arith) i r ∙ sym (B.writes k (first k q) i h kq x)

  -- a place holds what its own part put there: the later parts leave it
  first_at : (m k : ℕ) (p : M) (i : I) → m ≤ n → ok p → k < m → R k i → at (first m p) i ≡ at (part k (first k p)) i
  unfolding up_to
  first_at zero k p i h o l r = absurd (not-suc-le-zero l)
  first_at (suc m) k p i h o l r = go (ℕ_discrete k m) (λ l'. first_at m k p i (le_of_suc-le h) o l' r)
    where
      go : Dec (k ≡ m) → (k < m → at (first m p) i ≡ at (part k (first k p)) i) → at (part m (first m p)) i ≡ at (part k (first k p)) i
      go (yes d) ih = rw d
      go (no d) ih =
          B.writes m (first m p) i h (first_keeps m p (le_of_suc-le h) o) (λ r'. d (B.apart k m i (lt_of_lt_of_le l h) h r r'))
          ∙ ih (omega arith)

  pub parts_at : (p : M) (k : ℕ) (i : I) → ok p → k < n → R k i → at (up_to part n p) i ≡ at (part k (up_to part k p)) i
  parts_at p k i o h r = first_at n k p i (le_refl n) o h r

  pub parts_ok : (p : M) (k : ℕ) → ok p → k ≤ n → ok (up_to part k p)
  parts_ok p k o h = first_keeps k p h o

  -- the whole step: it writes where its parts write, and what it writes depends on the outside alone
  pub parts_keeps : (p : M) → ok p → ok (up_to part n p)
  parts_keeps p o = first_keeps n p (le_refl n) o

  pub parts_writes : (p : M) (i : I) → ok p → ((k : ℕ) → k < n → ¬ R k i) → at (up_to part n p) i ≡ at p i
  parts_writes p i o out = first_writes n p i (le_refl n) o out

  pub parts_reads : (p q : M) → ok p → ok q → Alike at E p q → (k : ℕ) → k < n → Alike at (R k) (up_to part n p) (up_to part n q)
  parts_reads p q op oq e k h = first_reads n p q (le_refl n) op oq e k h
