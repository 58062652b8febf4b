-- A turn as a loop lists it: after y rows the list begins with the turn of a picture y rows high. Assumes nothing.
use mathlib.Core.Path.{◌≡◌, refl, sym, ap, ◌∙◌}
use mathlib.Core.Bool.{true, false}
use mathlib.Core.List.{List, [], ◌∷◌, ◌++◌, append-nil}
use Prim.Native.Nat.{ℕ, suc, ◌+◌, ◌≤◌, ◌<◌}
use native.Mathlib.Numerals.{add-one}
use native.Mathlib.Omega.{arith}
use lib.ListN.{get_or, length, set, drop, length-append, length-set}
use lib.Seq.{drop-cons, set_at, append_snoc}
use Rattle.maps.specs.Size.{address}
use Rattle.turn_list.specs.Turn.{gapless, may_start, turn_row, turn, over}

module _ (w : ℕ) (slices done list : List ℕ) where
  pub record Listing (y k : ℕ) (now : List ℕ) : Type 0 where
    pub many : k ≡ length (turn w y slices done)
    pub most : k ≤ y
    pub long : length now ≡ length list
    pub is : now ≡ over (turn w y slices done) list

  pub listing_none : Listing 0 0 list
  unfolding turn
  listing_none = record { many = refl; most = omega arith; long = refl; is = refl }

  row_yes : (x y : ℕ) → x ≡ gapless w done y → may_start w slices done x y ≡ true → turn_row w slices done y ≡ address w x y ∷ []
  unfolding turn_row
  row_yes x y e t = rw (← e, t)

  row_no : (x y : ℕ) → x ≡ gapless w done y → may_start w slices done x y ≡ false → turn_row w slices done y ≡ []
  unfolding turn_row
  row_no x y e t = rw (← e, t)

  turn_next : (y : ℕ) → turn w (y + 1) slices done ≡ turn w y slices done ++ turn_row w slices done y
  unfolding turn
  turn_next y = rw (add-one y)

  pub listing_skip : (x y k : ℕ) (now : List ℕ) → x ≡ gapless w done y → may_start w slices done x y ≡ false → Listing y k now → Listing (y + 1) k now
  listing_skip x y k now e t l =
      let same : turn w (y + 1) slices done ≡ turn w y slices done =
      turn_next y ∙ ap (λ r. turn w y slices done ++ r) (row_no x y e t) ∙ append-nil (turn w y slices done) in
      record { many = l.many ∙ ap length (sym same); most = omega (arith, l.most); long = l.long; is = l.is ∙ ap (λ r. over r list) (sym same) }

  pub listing_put : (x y k : ℕ) (now : List ℕ) → x ≡ gapless w done y → may_start w slices done x y ≡ true → k < length list → Listing y k now
      → Listing (y + 1) (k + 1) (set now k (address w x y))
  listing_put x y k now e t h l =
      let so = turn w y slices done in
      let a = address w x y in
      let same : turn w (y + 1) slices done ≡ so ++ (a ∷ []) = turn_next y ∙ ap (λ r. so ++ r) (row_yes x y e t) in
      let long : length (so ++ (a ∷ [])) ≡ k + 1 = length-append so (a ∷ []) ∙ omega (arith, l.many) in
      record {
        many = sym (ap length same ∙ long);
        most = omega (arith, l.most);
        long = length-set now k a ∙ l.long;
        is = ap (λ r. set r k a) (l.is ∙ ap (λ r. so ++ r) (ap (λ n. drop n list) (sym l.many) ∙ drop-cons list k 0 h))
            ∙ set_at so (get_or list k 0) (drop (suc k) list) a k (sym l.many)
            ∙ sym (append_snoc so a (drop (suc k) list))
            ∙ sym (ap (λ r. over r list) same ∙ ap (λ n. so ++ (a ∷ []) ++ drop n list) (long ∙ add-one k));
      }
