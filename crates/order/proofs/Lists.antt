-- Lists of steps, by their places, joined and in another order. Assumes nothing.
use mathlib.Core.Path.{◌≡◌, refl, sym, ap, ◌∙◌}
use mathlib.Core.Logic.{◌⊎◌, inl, inr}
use mathlib.Core.List.{List, [], ◌∷◌, ◌++◌}
use Prim.Native.Nat.{ℕ, zero, suc, ◌<◌}
use native.Mathlib.Nat.{lt_irrefl, not-suc-le-zero, le_of_suc-le-suc}
use native.Mathlib.Omega.{arith}
use lib.ListN.{get_or, length}
use Rattle.order.specs.Lists.{Names, Distinct, Rises, Permutes}
use Rattle.order.specs.Lists.Permutes.{none, keep, swap, join}

-- ---- by places
pub place_names : (o : List ℕ) (i : ℕ) → i < length o → Names o (get_or o i 0)
place_names [] i h = absurd (not-suc-le-zero h)
place_names (a ∷ o) zero h = inl refl
place_names (a ∷ o) (suc i) h = inr (place_names o i (le_of_suc-le-suc h))

pub names_place : (o : List ℕ) (a : ℕ) → Names o a → (i : ℕ) × (i < length o) × (get_or o i 0 ≡ a)
names_place [] a x' = elim x' [ ]
names_place (b ∷ o) a (inl e) = (0, omega arith, sym e)
names_place (b ∷ o) a (inr n) = let p = names_place o a n in (suc p.0, omega (arith, p.1), p.2)

-- ---- joined
pub names_left : (l m : List ℕ) (a : ℕ) → Names l a → Names (l ++ m) a
names_left [] m a x' = elim x' [ ]
names_left (b ∷ l) m a (inl e) = inl e
names_left (b ∷ l) m a (inr n) = inr (names_left l m a n)

pub names_right : (l m : List ℕ) (a : ℕ) → Names m a → Names (l ++ m) a
names_right [] m a n = n
names_right (b ∷ l) m a n = inr (names_right l m a n)

pub names_either : (l m : List ℕ) (a : ℕ) → Names (l ++ m) a → Names l a ⊎ Names m a
names_either [] m a n = inr n
names_either (b ∷ l) m a (inl e) = inl (inl e)
names_either (b ∷ l) m a (inr n) = go (names_either l m a n)
  where
    go : Names l a ⊎ Names m a → Names (b ∷ l) a ⊎ Names m a
    go (inl p) = inl (inr p)
    go (inr p) = inr p

pub rises_append : (l m : List ℕ) → Rises l → Rises m → ((a b : ℕ) → Names l a → Names m b → a < b) → Rises (l ++ m)
rises_append [] m r t f = t
rises_append (c ∷ l) m r t f = (above, rises_append l m r.1 t (λ a b n. f a b (inr n)))
  where
    above : (b : ℕ) → Names (l ++ m) b → c < b
    above b n = go (names_either l m b n)
      where
        go : Names l b ⊎ Names m b → c < b
        go (inl p) = r.0 b p
        go (inr p) = f c b (inl refl) p

pub rises_distinct : (l : List ℕ) → Rises l → Distinct l
rises_distinct [] r = tt
rises_distinct (a ∷ l) r = ((λ n. lt_irrefl a (r.0 a n)), rises_distinct l r.1)

-- ---- in another order
pub permutes_itself : (l : List ℕ) → Permutes l l
permutes_itself [] = none
permutes_itself (a ∷ l) = keep a (permutes_itself l)

pub names_permuted : {o l : List ℕ} → Permutes o l → (a : ℕ) → Names o a → Names l a
names_permuted none a n = n
names_permuted (keep b p) a (inl e) = inl e
names_permuted (keep b p) a (inr n) = inr (names_permuted p a n)
names_permuted (swap b c l) a (inl e) = inr (inl e)
names_permuted (swap b c l) a (inr (inl e)) = inl e
names_permuted (swap b c l) a (inr (inr n)) = inr (inr n)
names_permuted (join p q) a n = names_permuted q a (names_permuted p a n)

pub distinct_permuted : {o l : List ℕ} → Permutes o l → Distinct l → Distinct o
distinct_permuted none d = d
distinct_permuted (keep a p) d = ((λ n. d.0 (names_permuted p a n)), distinct_permuted p d.1)
distinct_permuted (swap a b l) d = (other, ((λ n. d.0 (inr n)), d.1.1))
  where
    other : ¬ Names (b ∷ l) a
    other (inl e) = d.0 (inl (sym e))
    other (inr n) = d.1.0 n
distinct_permuted (join p q) d = distinct_permuted p (distinct_permuted q d)

pub length_permuted : {o l : List ℕ} → Permutes o l → length o ≡ length l
length_permuted none = refl
length_permuted (keep a p) = ap suc (length_permuted p)
length_permuted (swap a b l) = refl
length_permuted (join p q) = length_permuted p ∙ length_permuted q
