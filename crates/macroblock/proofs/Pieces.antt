-- Blocks put one after the other make up the block that they cut, for every rule that does not look at the plane. Assumes nothing.
use mathlib.Core.Path.{◌≡◌, refl, sym, ap, ◌∙◌, subst}
use mathlib.Core.Bool.{Bool, true, false, cond}
use mathlib.Core.List.{List}
use Prim.Native.Nat.{ℕ, ◌+◌, ◌*◌, ◌/◌, ◌%◌, ◌<◌}
use native.Mathlib.Nat.{mod-lt, div-add-mod', mul_comm, mul_assoc, add-mul}
use native.Mathlib.Omega.{arith}
use lib.Arith.{digits_div, digits_mod, digits_lt}
use lib.Dec.{T}
use lib.ListN.{get_or, length}
use Rattle.laws.specs.Steps.{up_to}
use Rattle.laws.proofs.Patches.{length_patch, patch_is, patch_here, patch_other, patch_same}
use Rattle.laws.proofs.Tests.{true_t}
use Rattle.order.specs.Parts.{Parts}
use Rattle.order.proofs.Parts.{parts_at, parts_keeps, parts_ok, parts_writes}
use Rattle.basics.specs.Nnz.{blk_idx}
use Rattle.macroblock.specs.declared.place.Place.{Place}
use Rattle.cut.specs.Cut.{scan_x, scan_y}
use Rattle.cut.specs.inner.Blocks.{Scan}
use Rattle.macroblock.specs.Square.{in_block, place_of, put_block}
use Rattle.macroblock.specs.inner.Blocks.{BlockIn}
use Rattle.macroblock.proofs.Locality.{InPart, block_apart, block_in, block_cover, in_plane}
use Rattle.macroblock.proofs.Places.{At, at_row, at_column}

-- a block whose samples are given by two rules that agree in it
pub put_same : (q : ℕ) (p : Place) (u w : ℕ → ℕ → ℕ) (l : List ℕ) → 0 < q → ((x y : ℕ) → x < q → y < q → u x y ≡ w x y) → put_block q p u l ≡ put_block q p w l
put_same q p u w l some h =
    patch_same (in_block q p.stride p.row p.column) _ _ _ l (λ i. refl) (λ i t. h _ _ (mod-lt (i % p.stride) some) (mod-lt (i / p.stride) some))

-- a number of the square, by its digits in the block: a / q is z * m + w
digits : (a z m w q : ℕ) → 0 < q → w < m → a / q ≡ z * m + w → (a % (q * m) / q ≡ w) × (a % (q * m) % q ≡ a % q)
digits a z m w q hq hw e =
    let r : a % q < q = mod-lt a hq in
    let l : w * q + a % q < m * q = digits_lt hw r in
    let d : a ≡ z * (q * m) + (w * q + a % q) = sym (div-add-mod' a q) ∙ ap (λ n. n * q + a % q) e ∙ omega (arith, add-mul (z * m) w q, ap (λ n. z * n) (mul_comm q m), mul_assoc z m q) in
    let f : a % (q * m) ≡ w * q + a % q = ap (λ n. n % (q * m)) d ∙ digits_mod z (omega (arith, mul_comm m q)) in
    (ap (λ n. n / q) f ∙ digits_div w r, ap (λ n. n % q) f ∙ digits_mod w r)

-- piece k of m across put, and the whole by the piece that a sample lies in
abbrev pub put_piece : (q m : ℕ) → Place → (ℕ → ℕ → ℕ → ℕ) → ℕ → List ℕ → List ℕ
put_piece q m p f k l = put_block q (place_of m p k) (f k) l

abbrev pub whole_of : ℕ → (ℕ → ℕ → ℕ → ℕ) → ℕ → ℕ → ℕ
whole_of q f c r = f (blk_idx (c / q) (r / q)) (c % q) (r % q)

module _ (q m n : ℕ) (p : Place) (f : ℕ → ℕ → ℕ → ℕ) (S : Scan m) (some : 0 < q) (F : BlockIn (q * m) p n) where
  abbrev s : ℕ
  s = p.stride

  abbrev piece : ℕ → List ℕ → List ℕ
  piece = put_piece q m p f

  put_at : (k : ℕ) (l : List ℕ) (i : ℕ) → k < m * m → length l ≡ n → InPart q m p S k i → get_or (piece k l) i 0 ≡ f k (i % s % q) (i / s % q)
  put_at k l i hk o t = patch_here (in_block q s (p.row * m + scan_y k) (p.column * m + scan_x k)) _ l i (rw o (in_plane i F (block_in q m p S k i hk t))) t

  parts : Parts (λ l i. get_or l i 0) (λ l. length l ≡ n) (λ i. ⊥) (m * m) (InPart q m p S) piece
  parts = record {
    apart = block_apart q m p S;
    outside = λ k i hk t e. e;
    keeps = λ k l hk o. length_patch (in_block q s (p.row * m + scan_y k) (p.column * m + scan_x k)) _ l ∙ o;
    writes = λ k l i hk o out. patch_other (in_block q s (p.row * m + scan_y k) (p.column * m + scan_x k)) _ l i out;
    reads = λ k l l' hk o o' e g i t. put_at k l i hk o t ∙ sym (put_at k l' i hk o' t);
  }

  in_square_lem : (l : List ℕ) (i : ℕ) → length l ≡ n → At (q * m) p i → get_or (up_to piece (m * m) l) i 0 ≡ whole_of q f (i % s % (q * m)) (i / s % (q * m))
  in_square_lem l i o t = go (block_cover q m p S i t)
    where
      go : (k : ℕ) × (k < m * m) × InPart q m p S k i → get_or (up_to piece (m * m) l) i 0 ≡ whole_of q f (i % s % (q * m)) (i / s % (q * m))
      go (k, hk, u) =
          let a = digits (i / s) p.row m (scan_y k) q some (S.y_lt k hk) (at_row q (place_of m p k) i u) in
          let b = digits (i % s) p.column m (scan_x k) q some (S.x_lt k hk) (at_column q (place_of m p k) i u) in
          parts_at parts l k i o hk u ∙ put_at k (up_to piece k l) i hk (parts_ok parts l k o (omega arith)) u
          ∙ sym ((λ j. f (blk_idx (b.0 j) (a.0 j)) (b.1 j) (a.1 j)) ∙ ap (λ j. f j (i % s % q) (i / s % q)) (S.of k hk))

  pub pieces_are : (l : List ℕ) → length l ≡ n → up_to (put_piece q m p f) (m * m) l ≡ put_block (q * m) p (whole_of q f) l
  pieces_are l o =
      patch_is (in_block (q * m) s p.row p.column) (λ i. whole_of q f (i % s % (q * m)) (i / s % (q * m))) l (up_to piece (m * m) l) (parts_keeps parts l o ∙ sym o)
      (λ i h. go i (in_block (q * m) s p.row p.column i) refl)
    where
      go : (i : ℕ) (b : Bool) → in_block (q * m) s p.row p.column i ≡ b
          → get_or (up_to piece (m * m) l) i 0 ≡ cond b (whole_of q f (i % s % (q * m)) (i / s % (q * m))) (get_or l i 0)
      go i true e = in_square_lem l i o (true_t (in_block (q * m) s p.row p.column i) e)
      go i false e = parts_writes parts l i o (λ k hk t. subst T e (block_in q m p S k i hk t))
