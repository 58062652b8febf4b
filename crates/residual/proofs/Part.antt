-- A stretch of a list that is put at once. Assumes nothing.
use mathlib.Core.Path.{◌≡◌, refl, sym, ap, ◌∙◌}
use mathlib.Core.List.{List, [], ◌++◌, append-nil}
use Prim.Native.Nat.{ℕ, ◌+◌, ◌-◌, ◌<◌, ◌≤◌}
use native.Mathlib.Omega.{arith}
use borrow.Rule.Slice.PartMut.{put_mid, mid_of}
use lib.ListN.{length, get_or, take, drop, drop_of_length-le, length-drop}
use lib.Seq.{ext_get_or, take_all}
use Rattle.laws.specs.Table.{table, onto}
use Rattle.laws.proofs.Ontos.{onto_row, onto_long}
use Rattle.laws.proofs.Tables.{length_table, get_d_table}

module _ {A : Type 0} (d : A) where
  -- a list by its places
  pub table_of : (n : ℕ) (f : ℕ → A) (ys : List A) → length ys ≡ n → ((i : ℕ) → i < n → get_or ys i d ≡ f i) → ys ≡ table n f
  table_of n f ys long h = ext_get_or d ys (table n f) (long ∙ sym (length_table d n f)) (λ i b. h i (omega (arith, long)) ∙ sym (get_d_table d n f i (omega (arith, long))))

  -- n places from a on, where the first a are put already
  pub onto_part : (a n : ℕ) (g : ℕ → A) (l l' ys : List A) → a + n ≤ length l → l' ≡ onto a g l → length ys ≡ n → ((i : ℕ) → i < n → get_or ys i d ≡ g (a + i))
      → put_mid a n l' ys ≡ onto (a + n) g l
  onto_part a n g l l' ys room e long h =
      let k = length l' - a in
      let same = onto_long a g l l' (omega (arith, room)) e in
      let all : take k (drop a l') ≡ drop a l' = take_all k (drop a l') (simp length-drop (omega arith)) in
      let none : drop k (drop a l') ≡ [] = drop_of_length-le (drop a l') {i = k} (simp length-drop (omega arith)) in
      let whole : put_mid a k l' (ys ++ drop n (mid_of a k l')) ≡ put_mid a n l' ys = rw (all, none, append-nil) in
      sym whole
      ∙ onto_row a n g (λ i. g (a + i)) l l' (ys ++ drop n (mid_of a k l')) (omega (arith, room)) e (ap (λ t. t ++ drop n (mid_of a k l')) (table_of n (λ i. g (a + i)) ys long h))
      (λ i _. refl)
