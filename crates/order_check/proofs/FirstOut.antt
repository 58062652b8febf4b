-- The first entry that is out of place is the first that names a macroblock again, or the first whose macroblock comes before a neighbour. Assumes nothing.
use mathlib.Core.Path.{◌≡◌, refl, sym, ap, subst, ◌∙◌}
use mathlib.Core.Bool.{true, false}
use mathlib.Core.Logic.{◌⊎◌, inl, inr}
use mathlib.Core.List.{List}
use Prim.Native.Nat.{ℕ, ◌/◌, ◌%◌, ◌<◌, ◌≤◌, min}
use native.Mathlib.Decide.{dec_lt}
use native.Mathlib.Nat.{div-add-mod'}
use native.Mathlib.Omega.{arith}
use lib.Arith.{digits_div, digits_mod}
use lib.ListN.{get_or, length}
use borrow.Author.Tests.{lt-ltb, le-ltb}
use Rattle.laws.proofs.Tests.{not_both}
use Rattle.order.specs.FullOrder.{InPlace}
use Rattle.maps.specs.Neighbours.{Side, beside, available, Adjoins}
use Rattle.maps.specs.Size.{total, address}
use Rattle.maps.proofs.Beside.{adjoins_before}
use Rattle.maps.proofs.Sizes.{place_of, total_most, address_inside}
use Rattle.turn_list.proofs.Leading.{leading_is, leads_same}
use Rattle.order_check.specs.Check.{named_before, entry_ok, out_of_place}
use Rattle.order_check.specs.inner.Places.{Checkable, Noted, Least, EarlyIn}
use Rattle.order_check.proofs.Least.{early_yes, early_is}
use Rattle.order_check.proofs.Named.{named_is, named_yes, entry_yes, entry_no, place_is, place_at}

module _ (w h : ℕ) (slices order places : List ℕ) (size k e : ℕ)
    (c : Checkable w h slices order) (room : total w h ≤ size) (n : Noted order k size places) (l : Least (EarlyIn w h slices places) e) where
  some_w : 0 < w
  some_w = c.map.size.some_w

  -- an entry's address, and its neighbours', have a place
  inside : (i : ℕ) → i < length order → get_or order i 0 < length places
  inside i m = omega (arith, c.inside i m, n.long)

  lower : (a b : ℕ) → a < length places → Adjoins w slices a b → b < length places
  lower a b m j = omega (arith, adjoins_before w slices a b some_w j)

  -- ---- those before
  in_place : (i : ℕ) → i < min k e → InPlace (Adjoins w slices) order i
  in_place i m = record { new = new; after = after }
    where
      in_list : i < length order
      in_list = omega (arith, n.to.most)

      a : ℕ
      a = get_or order i 0

      new : (j : ℕ) → j < i → ¬ (get_or order j 0 ≡ a)
      new j p q = not_both (named_yes order i a j p q) (n.to.new i (omega arith))

      -- a neighbour that is not before would make the entry an early one
      after : (b : ℕ) → Adjoins w slices a b → (j : ℕ) × (j < i) × (get_or order j 0 ≡ b)
      after b (s, t, is) =
          named_is order i b
          (n.to.named i b (omega arith) (lower a b (inside i in_list) (s, t, is)) ∙ lt-ltb (get_or places b 0) i (go (dec_lt (get_or places b 0) i)))
        where
          here : get_or places a 0 ≡ i
          here = place_is order k places n.to i (omega arith) (inside i in_list)

          early : ¬ (get_or places b 0 < i) → EarlyIn w h slices places i
          early q =
              let p = place_of w h a some_w (c.inside i in_list) in
              let at = ap (λ z. get_or places z 0) (div-add-mod' a w) in
              let t' = early_yes w slices places (a % w) (a / w) s t (omega (arith, at, ap (λ z. get_or places z 0) is, here)) in
              (a / w, p.in_h, (a % w, omega arith, p.in_w, t', at ∙ here))

          go : Dec (get_or places b 0 < i) → get_or places b 0 < i
          go (yes q) = q
          go (no q) = absurd (omega (arith, l.least i (early q)))

  -- ---- the first that is not
  again : k < length order → ¬ InPlace (Adjoins w slices) order k
  again m p = let f = named_is order k (get_or order k 0) (n.stop m) in p.new f.0 f.1 f.2

  too_early : e < k → EarlyIn w h slices places e → ¬ InPlace (Adjoins w slices) order e
  too_early m (y, hy, (x, z, hx, t, is)) p = not_both (named_yes order e b f.0 f.1 f.2) unnamed
    where
      side : (k : Side) × (available w slices x y k ≡ true) × (get_or places (address w x y) 0 ≤ get_or places (beside w x y k) 0)
      side = early_is w slices places x y t

      b : ℕ
      b = beside w x y side.0

      a_low : address w x y < length places
      a_low = omega (arith, address_inside w h x y (record { in_w = hx; in_h = hy }), n.long)

      at : get_or order e 0 ≡ address w x y
      at = subst (λ i. get_or order i 0 ≡ address w x y) is (place_at order k places n.to (address w x y) a_low (omega (arith, is)))

      next : Adjoins w slices (address w x y) b
      next = rw (digits_mod y hx, digits_div y hx) (side.0, side.1, refl)

      f : (j : ℕ) × (j < e) × (get_or order j 0 ≡ b)
      f = p.after b (subst (λ a. Adjoins w slices a b) (sym at) next)

      unnamed : named_before order e b ≡ false
      unnamed = n.to.named e b (omega arith) (lower (address w x y) b a_low next) ∙ le-ltb (get_or places b 0) e (omega (arith, side.2, is))

  out : min k e < length order → ¬ InPlace (Adjoins w slices) order (min k e)
  out m = go (dec_lt e k)
    where
      go : Dec (e < k) → ¬ InPlace (Adjoins w slices) order (min k e)
      go (yes q) = let z : e ≡ min k e = omega arith in subst (λ i. ¬ InPlace (Adjoins w slices) order i) z (early l.is)
        where
          early : (e ≡ 65535) ⊎ EarlyIn w h slices places e → ¬ InPlace (Adjoins w slices) order e
          early (inl none) = absurd (omega (arith, n.to.most, c.long, total_most w h c.map.size))
          early (inr some) = too_early q some
      go (no q) = let z : k ≡ min k e = omega arith in subst (λ i. ¬ InPlace (Adjoins w slices) order i) z (again (omega arith))

  pub first_out : min k e ≡ out_of_place w slices order
  unfolding out_of_place
  first_out =
      leads_same (length order) (entry_ok w slices order) (min k e) _ (record {
        most = omega (arith, n.to.most);
        all = λ i m. entry_yes order w slices i (in_place i m);
        stop = λ m. entry_no order w slices (min k e) (out m);
      }) (leading_is (length order) (entry_ok w slices order))
