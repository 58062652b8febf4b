-- A list whose first places a loop puts anew, one place a turn. Assumes nothing.
use mathlib.Core.Path.{◌≡◌, refl, sym, ap, ◌∙◌}
use mathlib.Core.List.{List, [], ◌∷◌, ◌++◌, append-nil, append_assoc}
use Prim.Native.Nat.{ℕ, zero, suc, ◌+◌, ◌-◌, ◌≤◌, ◌<◌}
use native.Mathlib.Nat.{zero-add, suc-add, le_of_suc-le-suc, not-suc-le-zero}
use native.Mathlib.Numerals.{add-one}
use native.Mathlib.Omega.{arith}
use lib.ListN.{length, get_or, set, take, drop, length-append, length-drop, drop_of_length-le}
use lib.Seq.{take_at, drop_at, take_all, drop-drop}
use borrow.Rule.Slice.PartMut.{put_mid, mid_of}
use Rattle.laws.specs.Table.{table, onto}
use Rattle.laws.proofs.Tables.{length_table, table_same}

module _ {A : Type 0} where
  pub onto_none : (f : ℕ → A) (l : List A) → l ≡ onto 0 f l
  unfolding table
  onto_none f l = refl

  next : (k : ℕ) (f : ℕ → A) (l : List A) (v : A) → k < length l → v ≡ f k → set (onto k f l) k v ≡ onto (suc k) f l
  unfolding table
  next k f [] v h e = absurd (not-suc-le-zero h)
  next zero f (x ∷ l) v h e = rw e
  next (suc k) f (x ∷ l) v h e = ap {B = List A} (λ r. f 0 ∷ r) (next k (λ i. f (suc i)) l v (le_of_suc-le-suc h) e)

  pub onto_more : (k : ℕ) (f : ℕ → A) (l l' : List A) {v : A} → k < length l → l' ≡ onto k f l → v ≡ f k → set l' k v ≡ onto (k + 1) f l
  onto_more k f l l' {v} h e q = ap (λ m. set m k v) e ∙ rw (add-one k) (next k f l v h q)

  -- the same with the next number given: for places that are written out one after the other
  pub onto_next : (k m : ℕ) (f : ℕ → A) (l : List A) {l' : List A} {v : A} → m ≡ k + 1 → k < length l → l' ≡ onto k f l → v ≡ f k → set l' k v ≡ onto m f l
  onto_next k m f l {l'} e h p q = rw e (onto_more k f l l' h p q)

  get_d_front : (k : ℕ) (f : ℕ → A) (t : List A) (d : A) (i : ℕ) → i < k → get_or (table k f ++ t) i d ≡ f i
  unfolding table
  get_d_front zero f t d i h = absurd (not-suc-le-zero h)
  get_d_front (suc k) f t d zero h = refl
  get_d_front (suc k) f t d (suc i) h = get_d_front k (λ j. f (suc j)) t d i (le_of_suc-le-suc h)

  -- what is read back of the places that are put
  pub onto_at : (k : ℕ) (f : ℕ → A) (l l' : List A) (d : A) (i : ℕ) → l' ≡ onto k f l → i < k → get_or l' i d ≡ f i
  onto_at k f l l' d i e h = ap (λ m. get_or m i d) e ∙ get_d_front k f (drop k l) d i h

  pub onto_long : (k : ℕ) (f : ℕ → A) (l l' : List A) → k ≤ length l → l' ≡ onto k f l → length l' ≡ length l
  onto_long k f l l' h e = ap length e ∙ simp (length-append, length-drop) (omega (arith, length_table (f 0) k f))

  pub onto_all : (k : ℕ) (f : ℕ → A) (l : List A) → length l ≡ k → onto k f l ≡ table k f
  onto_all k f l e = ap (λ t. table k f ++ t) (drop_of_length-le l {i = k} (omega arith)) ∙ append-nil (table k f)

  pub onto_same : (k : ℕ) (f g : ℕ → A) (l : List A) → ((i : ℕ) → i < k → f i ≡ g i) → onto k f l ≡ onto k g l
  onto_same k f g l h = ap (λ t. t ++ drop k l) (table_same k f g h)

  table_add : (a n : ℕ) (g : ℕ → A) → table (a + n) g ≡ table a g ++ table n (λ i. g (a + i))
  unfolding table
  table_add zero n g = rw zero-add (table_same n _ _ (λ i h. ap g (sym (zero-add i))))
  table_add (suc a) n g =
      rw suc-add (ap {B = List A} (λ r. g 0 ∷ r) (table_add a n (λ i. g (suc i)) ∙ ap (λ t. table a (λ i. g (suc i)) ++ t) (table_same n _ _ (λ i h. ap g (sym (suc-add a i))))))

  -- a row of n places, put through the part of the list from its first place on
  pub onto_row : (a n : ℕ) (g f : ℕ → A) (l l' ys : List A) → a ≤ length l → l' ≡ onto a g l → ys ≡ onto n f (mid_of a (length l' - a) l')
      → ((i : ℕ) → i < n → f i ≡ g (a + i)) → put_mid a (length l' - a) l' ys ≡ onto (a + n) g l
  onto_row a n g f l l' ys h e ey same =
      let long : length (table a g) ≡ a = length_table (g 0) a g in
      let k = length l' - a in
      let before : take a l' ≡ table a g = ap (take a) e ∙ take_at (table a g) (drop a l) a long in
      let rest : drop a l' ≡ drop a l = ap (drop a) e ∙ drop_at (table a g) (drop a l) a long in
      let all : take k (drop a l') ≡ drop a l = take_all k (drop a l') (simp length-drop (omega arith)) ∙ rest in
      let none : drop k (drop a l') ≡ [] = drop_of_length-le (drop a l') {i = k} (simp length-drop (omega arith)) in
      let row : ys ≡ table n (λ i. g (a + i)) ++ drop (a + n) l = ey ∙ ap (onto n f) all ∙ onto_same n f _ (drop a l) same ∙ ap (λ t. table n (λ i. g (a + i)) ++ t) (drop-drop n a l) in
      rw (before, none, row) (rw append-nil (sym (append_assoc (table a g) (table n (λ i. g (a + i))) (drop (a + n) l)) ∙ ap (λ t. t ++ drop (a + n) l) (sym (table_add a n g))))
