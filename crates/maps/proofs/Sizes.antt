-- The rules of sizes and places as facts: `X-is` says what a test that holds tells, and `X-yes` shows the test. Assumes nothing.
use mathlib.Core.Path.{◌≡◌}
use mathlib.Core.Bool.{true, ◌&&◌}
use Prim.Native.Nat.{ℕ, ◌*◌, ◌/◌, ◌%◌, ◌≤◌, ◌<◌}
use native.Mathlib.Nat.{mod-lt, div-lt_iff_lt-mul, mul-le-mul}
use lib.Arith.{digits_lt}
use lib.Dec.{leb, ltb, eqb}
use borrow.Author.Tests.{eqb-true, leb-true, ltb-true, le-leb, lt-ltb}
use Rattle.laws.proofs.Answers.{passes_by}
use Rattle.laws.proofs.Tests.{and_both, and_of}
use Rattle.maps.specs.Progress.{start_answer}
use Rattle.maps.specs.Size.{total, address, size_ok, Size, place_ok, Stands}

-- the product of two 32-bit numbers
pub product_most : (a b : ℕ) → a ≤ 4294967295 → b ≤ 4294967295 → a * b ≤ 18446744065119617025
product_most a b p q = mul-le-mul p q

module _ (w h : ℕ) where
  pub size_is : size_ok w h ≡ true → Size w h
  unfolding size_ok
  size_is e =
      let e₃ = and_both (leb 1 w && leb w 120 && leb 1 h) (leb h 68) e in
      let e₂ = and_both (leb 1 w && leb w 120) (leb 1 h) e₃.0 in
      let e₁ = and_both (leb 1 w) (leb w 120) e₂.0 in
      record { some_w = leb-true 1 w e₁.0; most_w = leb-true w 120 e₁.1; some_h = leb-true 1 h e₂.1; most_h = leb-true h 68 e₃.1 }

  pub size_yes : Size w h → size_ok w h ≡ true
  unfolding size_ok
  size_yes s = simp (le-leb 1 w s.some_w, le-leb w 120 s.most_w, le-leb 1 h s.some_h, le-leb h 68 s.most_h)

  -- a picture has at most 8160 macroblocks
  pub total_most : Size w h → total w h ≤ 68 * 120
  total_most s = mul-le-mul s.most_h s.most_w

  -- a picture that starts is of good size, and its done map has a byte for each macroblock
  pub start_is : (bytes : ℕ) → start_answer w h bytes ≡ 0 → Size w h × (bytes ≡ total w h)
  unfolding start_answer
  start_is bytes e =
      let p₁ = passes_by 0 (size_ok w h) _ e in
      (size_is p₁.0, eqb-true bytes (total w h) (passes_by 1 (eqb bytes (total w h)) _ p₁.1).0)

module _ (w h x y : ℕ) where
  pub place_is : place_ok w h x y ≡ true → Stands w h x y
  unfolding place_ok
  place_is e = let t = and_both (ltb x w) (ltb y h) e in record { in_w = ltb-true x w t.0; in_h = ltb-true y h t.1 }

  pub place_yes : Stands w h x y → place_ok w h x y ≡ true
  unfolding place_ok
  place_yes p = and_of (lt-ltb x w p.in_w) (lt-ltb y h p.in_h)

  pub address_inside : Stands w h x y → address w x y < total w h
  address_inside p = digits_lt p.in_h p.in_w

-- the place of address a
pub place_of : (w h a : ℕ) → 0 < w → a < total w h → Stands w h (a % w) (a / w)
place_of w h a hw ha = record { in_w = mod-lt a hw; in_h = (div-lt_iff_lt-mul hw).1 ha }
