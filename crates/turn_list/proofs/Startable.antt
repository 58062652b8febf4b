-- What a turn lists: exactly the macroblocks that may start, one of a row at most, from the top row down. Assumes nothing.
use mathlib.Core.Path.{◌≡◌, refl, sym, ap, subst, subst₂, ◌∙◌}
use mathlib.Core.Bool.{Bool, true, false, cond}
use mathlib.Core.Logic.{◌⊎◌, inl, inr}
use mathlib.Core.List.{List, [], ◌∷◌, ◌++◌}
use Prim.Native.Nat.{ℕ, zero, suc, ◌/◌, ◌%◌, ◌<◌, ◌≤◌}
use native.Mathlib.Nat.{not-suc-le-zero, div-add-mod'}
use native.Mathlib.Decide.{dec_lt}
use native.Mathlib.Omega.{arith}
use lib.Arith.{digits_div, digits_mod}
use lib.Dec.{ltb}
use lib.ListN.{length, length-append}
use borrow.Author.Tests.{ltb-true, lt-ltb}
use Rattle.laws.proofs.Tests.{and_both, and_of}
use Rattle.order.specs.Lists.{Names, Rises}
use Rattle.order.specs.Order.{Done, First}
use Rattle.order.proofs.Lists.{names_left, names_right, names_either, rises_append}
use Rattle.maps.specs.Done.{all_settled}
use Rattle.maps.specs.Neighbours.{available, beside}
use Rattle.maps.specs.Size.{total, address, Stands}
use Rattle.maps.proofs.Beside.{available_at}
use Rattle.maps.proofs.Sizes.{address_inside, place_of}
use Rattle.maps.proofs.Waiting.{done_is, done_yes, undone_is, undone_yes, settled_is, settled_yes}
use Rattle.turn_list.specs.Turn.{gapless, may_start, turn_row, turn, Startable}
use Rattle.turn_list.proofs.Leading.{leads_same, done_at, gapless_is}

module _ (w : ℕ) (slices done : List ℕ) where
  -- ---- a row
  -- what may start stands where the row's count says
  starts_gapless : (x y : ℕ) → x < w → Startable w slices done x y → gapless w done y ≡ x
  starts_gapless x y h s =
      leads_same w (done_at w done y) (gapless w done y) x (gapless_is w done y)
      (record { most = omega arith; all = λ i l. done_yes done (address w i y) (s.left i l); stop = λ l. undone_yes done (address w x y) s.undone })

  -- the macroblock of row y that may start, by its address
  pub record StartableAt (y a : ℕ) : Type 0 where
    pub x : ℕ
    pub in_w : x < w
    pub is : a ≡ address w x y
    pub starts : Startable w slices done x y

  row_named : (y a : ℕ) → Names (turn_row w slices done y) a → StartableAt y a
  unfolding turn_row
  row_named y a = go (may_start w slices done (gapless w done y) y) refl
    where
      x : ℕ
      x = gapless w done y

      go : (b : Bool) → may_start w slices done x y ≡ b → Names (cond b (address w x y ∷ []) []) a → StartableAt y a
      go false e n = absurd n
      go true e (inr n) = absurd n
      go true e (inl q) =
          let t = and_both (ltb x w) (all_settled w x y (available w slices x y) done) e in
          let l = ltb-true x w t.0 in
          record {
            x = x;
            in_w = l;
            is = q;
            starts = record {
              undone = undone_is done (address w x y) ((gapless_is w done y).stop l);
              left = λ i h. done_is done (address w i y) ((gapless_is w done y).all i h);
              ready = settled_is w x y (available w slices x y) done t.1;
            };
          }

  row_is : (x y : ℕ) → x < w → Startable w slices done x y → turn_row w slices done y ≡ address w x y ∷ []
  unfolding turn_row
  row_is x y h s =
      rw (starts_gapless x y h s, and_of (lt-ltb x w h) (settled_yes w x y (available w slices x y) done s.ready))

  row_short : (y : ℕ) → length (turn_row w slices done y) ≤ 1
  unfolding turn_row
  row_short y = go (may_start w slices done (gapless w done y) y)
    where
      go : (b : Bool) → length (cond b (address w (gapless w done y) y ∷ []) []) ≤ 1
      go true = omega arith
      go false = omega arith

  row_rises : (y : ℕ) → Rises (turn_row w slices done y)
  unfolding turn_row
  row_rises y = go (may_start w slices done (gapless w done y) y)
    where
      go : (b : Bool) → Rises (cond b (address w (gapless w done y) y ∷ []) [])
      go true = ((λ b n. absurd n), tt)
      go false = tt

  -- ---- the rows from the top down
  -- a turn names a macroblock that may start, in one of its rows
  pub record Listed (h a : ℕ) : Type 0 where
    pub y : ℕ
    pub in_h : y < h
    pub at : StartableAt y a

  pub turn_named : (h a : ℕ) → Names (turn w h slices done) a → Listed h a
  unfolding turn
  turn_named zero a n = absurd n
  turn_named (suc h) a n = go (turn_named h a) (names_either (turn w h slices done) (turn_row w slices done h) a n)
    where
      go : (Names (turn w h slices done) a → Listed h a) → Names (turn w h slices done) a ⊎ Names (turn_row w slices done h) a → Listed (suc h) a
      go f (inl m) = let p = f m in record { y = p.y; in_h = omega (arith, p.in_h); at = p.at }
      go f (inr m) = record { y = h; in_h = omega arith; at = row_named h a m }

  pub turn_names : (h x y : ℕ) → Stands w h x y → Startable w slices done x y → Names (turn w h slices done) (address w x y)
  unfolding turn
  turn_names zero x y p s = absurd (not-suc-le-zero p.in_h)
  turn_names (suc h) x y p s = go (λ l. turn_names h x y (record { in_w = p.in_w; in_h = l }) s) (dec_lt y h)
    where
      go : (y < h → Names (turn w h slices done) (address w x y)) → Dec (y < h) → Names (turn w h slices done ++ turn_row w slices done h) (address w x y)
      go f (yes l) = names_left (turn w h slices done) (turn_row w slices done h) (address w x y) (f l)
      go f (no l) =
          let e : y ≡ h = omega (arith, p.in_h) in
          let m : Names (turn_row w slices done y) (address w x y) = subst (λ m. Names m (address w x y)) (sym (row_is x y p.in_w s)) (inl refl) in
          names_right (turn w h slices done) (turn_row w slices done h) (address w x y) (subst (λ r. Names (turn_row w slices done r) (address w x y)) e m)

  pub turn_rises : (h : ℕ) → Rises (turn w h slices done)
  unfolding turn
  turn_rises zero = tt
  turn_rises (suc h) = rises_append (turn w h slices done) (turn_row w slices done h) (turn_rises h) (row_rises h) above
    where
      above : (a b : ℕ) → Names (turn w h slices done) a → Names (turn_row w slices done h) b → a < b
      above a b m n =
          let p = turn_named h a m in
          let q = row_named h b n in
          let l : address w p.at.x p.y < total w h = address_inside w h p.at.x p.y (record { in_w = p.at.in_w; in_h = p.in_h }) in
          omega (arith, p.at.is, q.is)

  pub turn_short : (h : ℕ) → length (turn w h slices done) ≤ h
  unfolding turn
  turn_short zero = omega arith
  turn_short (suc h) = omega (arith, turn_short h, row_short h, length-append (turn w h slices done) (turn_row w slices done h))

  -- ---- by place and by row
  place_same : (x y i j : ℕ) → x < w → i < w → address w x y ≡ address w i j → (i ≡ x) × (j ≡ y)
  place_same x y i j h k e =
      (sym (digits_mod j k) ∙ ap (λ a. a % w) (sym e) ∙ digits_mod y h, sym (digits_div j k) ∙ ap (λ a. a / w) (sym e) ∙ digits_div y h)

  pub turn_starts : (h x y : ℕ) → x < w → Names (turn w h slices done) (address w x y) → Startable w slices done x y
  turn_starts h x y hx n =
      let p = turn_named h (address w x y) n in
      let e = place_same x y p.at.x p.y hx p.at.in_w p.at.is in
      subst₂ (Startable w slices done) e.0 e.1 p.at.starts

  pub turn_rows : (h a b : ℕ) → Names (turn w h slices done) a → Names (turn w h slices done) b → a / w ≡ b / w → a ≡ b
  turn_rows h a b m n e =
      let p = turn_named h a m in
      let q = turn_named h b n in
      let r : q.y ≡ p.y = sym (row q.y b q.at) ∙ sym e ∙ row p.y a p.at in
      let t = subst (λ y. StartableAt y b) r q.at in
      p.at.is
      ∙ ap (λ i. address w i p.y) (sym (starts_gapless p.at.x p.y p.at.in_w p.at.starts) ∙ starts_gapless t.x p.y t.in_w t.starts)
      ∙ sym t.is
    where
      row : (y c : ℕ) → StartableAt y c → c / w ≡ y
      row y c k = ap (λ i. i / w) k.is ∙ digits_div y k.in_w

  -- the first undone macroblock is in it
  pub turn_first : (h a : ℕ) → 0 < w → First (total w h) done a → Names (turn w h slices done) a
  turn_first h a hw f =
      let p = place_of w h a hw f.inside in
      subst (Names (turn w h slices done)) is (turn_names h (a % w) (a / w) p (record {
        undone = λ e. f.undone (subst (Done done) is e);
        left = λ i l. f.below (address w i (a / w)) (omega (arith, is));
        ready = λ k t. f.below (beside w (a % w) (a / w) k) (subst (λ m. beside w (a % w) (a / w) k < m) is (available_at w (a % w) (a / w) slices k p.in_w t).before);
      }))
    where
      is : address w (a % w) (a / w) ≡ a
      is = div-add-mod' a w
