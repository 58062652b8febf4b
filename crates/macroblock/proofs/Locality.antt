-- A macroblock's square, rebuilt block by block, is local: its blocks are the parts of a step, each of which reads earlier ones and marked neighbours only.
-- For every cut and every rule. Assumes nothing.
use mathlib.Core.Path.{◌≡◌, sym, ap, ap₂, ◌∙◌}
use mathlib.Core.Logic.{inl, inr}
use mathlib.Core.Bool.{Bool}
use mathlib.Core.List.{List}
use Prim.Native.Nat.{ℕ, ◌+◌, ◌*◌, ◌-◌, ◌/◌, ◌%◌, ◌<◌, ◌≤◌}
use native.Mathlib.Nat.{mod-lt, div-add-mod', div-div-eq-div-mul, mul-le-mul_right}
use native.Mathlib.Omega.{arith}
use lib.Arith.{digits_div}
use lib.Dec.{T}
use lib.ListN.{get_or, length}
use Rattle.laws.proofs.Patches.{length_patch, patch_other, patch_here}
use Rattle.laws.proofs.Steps.{steps_length}
use Rattle.laws.proofs.Tests.{T_true}
use Rattle.order.specs.Order.{Alike}
use Rattle.order.specs.Parts.{Parts}
use Rattle.order.proofs.Parts.{parts_writes, parts_reads}
use Rattle.basics.specs.Nnz.{blk_idx}
use Rattle.maps.specs.Neighbours.{Side, beside_x, beside_y}
use Rattle.macroblock.specs.declared.place.Place.{Place}
use Rattle.cut.specs.Cut.{Cut, blocks, scan_x, scan_y, is_there, sides_of, square_sides}
use Rattle.maps.specs.Neighbours.Side.{A, B, C, D}
use Rattle.cut.specs.inner.Blocks.{Scan}
use Rattle.macroblock.specs.Local.{Local}
use Rattle.macroblock.specs.Square.{in_block, place_at, place_of, Rule, part_place, part_near, part, all_parts}
use Rattle.macroblock.specs.inner.Blocks.{BlockIn, StandsIn}
use Rattle.macroblock.proofs.Held.{row_at, column_at, Held, held}
use Rattle.macroblock.proofs.Neighbourhood.{near_same}
use Rattle.macroblock.proofs.Places.{At, at_of, at_row, at_column, place_is}

-- ---- the blocks of side q, m across, are apart, lie in the square at p, and cover it
module _ (q m : ℕ) (p : Place) (S : Scan m) where
  abbrev pub InPart : ℕ → ℕ → Type 0
  InPart k i = At q (place_of m p k) i

  pub block_apart : (j k i : ℕ) → j < m * m → k < m * m → InPart j i → InPart k i → j ≡ k
  block_apart j k i hj hk t u =
      sym (S.of j hj)
      ∙ ap₂ blk_idx (omega (arith, at_column q (place_of m p j) i t, at_column q (place_of m p k) i u)) (omega (arith, at_row q (place_of m p j) i t, at_row q (place_of m p k) i u))
      ∙ S.of k hk

  pub block_in : (k i : ℕ) → k < m * m → InPart k i → At (q * m) p i
  block_in k i hk t =
      at_of (q * m) p i
      (sym (div-div-eq-div-mul (i / p.stride) q m) ∙ ap (λ n. n / m) (at_row q (place_of m p k) i t) ∙ digits_div p.row (S.y_lt k hk))
      (sym (div-div-eq-div-mul (i % p.stride) q m) ∙ ap (λ n. n / m) (at_column q (place_of m p k) i t) ∙ digits_div p.column (S.x_lt k hk))

  pub block_cover : (i : ℕ) → At (q * m) p i → (k : ℕ) × (k < m * m) × InPart k i
  block_cover i t =
      let Y = i / p.stride / q in let Z = i % p.stride / q in
      let hy : Y % m < m = mod-lt Y S.some in
      let hx : Z % m < m = mod-lt Z S.some in
      let ey : Y / m ≡ p.row = div-div-eq-div-mul (i / p.stride) q m ∙ at_row (q * m) p i t in
      let ex : Z / m ≡ p.column = div-div-eq-div-mul (i % p.stride) q m ∙ at_column (q * m) p i t in
      let j = blk_idx (Z % m) (Y % m) in (
        j,
        S.of_lt (Z % m) (Y % m) hx hy,
        at_of q (place_of m p j) i
            (sym (div-add-mod' Y m) ∙ ap₂ (λ u v. u * m + v) ey (sym (S.of_y (Z % m) (Y % m) hx hy)))
            (sym (div-add-mod' Z m) ∙ ap₂ (λ u v. u * m + v) ex (sym (S.of_x (Z % m) (Y % m) hx hy))),
      )

-- a place of a block lies in the plane
pub in_plane : {q n : ℕ} {p : Place} (i : ℕ) → BlockIn q p n → At q p i → i < n
in_plane {q} {n} {p} i F t =
    let s = p.stride in
    let r : i / s % q < q = mod-lt (i / s) F.some in
    let c : i % s % q < q = mod-lt (i % s) F.some in
    let m : (p.row * q + i / s % q) * s ≤ (p.row * q + (q - 1)) * s = mul-le-mul_right s (omega arith) in
    omega (arith, place_is q s p.row p.column i t, F.within)

-- ---- a macroblock that stands in planes of n samples
module _ (c : Cut) (rule : Rule) (n s x y : ℕ) (marks : Side → Bool) (S : Scan c.across) (some : 0 < c.side) (reach : c.wide ≤ 2 * c.side)
    (stands : StandsIn (c.side * c.across) (place_at s y x) n (square_sides marks)) where
  abbrev q : ℕ
  q = c.side

  abbrev m : ℕ
  m = c.across

  -- what may be read: the marked neighbours
  abbrev pub Outside : ℕ → Type 0
  Outside i = (d : Side) × T (marks d) × At (c.side * c.across) (place_at s (beside_y y d) (beside_x x d)) i

  abbrev sample_in : List ℕ → ℕ → ℕ
  sample_in p i = get_or p i 0

  -- a marked neighbour is another square
  another : (d : Side) → T (marks d) → beside_y y d ≡ y → beside_x x d ≡ x → ⊥
  another A t e f = let h = stands.beside.on_left (T_true (marks A) t) in omega arith
  another B t e f = let h = stands.beside.on_above (T_true (marks B) t) in omega arith
  another C t e f = let h = stands.beside.on_above_right (T_true (marks C) t) in omega arith
  another D t e f = let h = stands.beside.on_corner (T_true (marks D) t) in omega (arith, h.0)

  -- over two planes that agree outside and on the earlier blocks, a block has the same neighbourhood
  module _ (k : ℕ) (hk : k < m * m) (p p' : List ℕ) (e : Alike sample_in Outside p p') (f : (j : ℕ) → j < k → Alike sample_in (InPart q m (place_at s y x) S j) p p') where
    abbrev Y : ℕ
    Y = y * c.across + scan_y k

    abbrev Z : ℕ
    Z = x * c.across + scan_x k

    abbrev Same : ℕ → Type 0
    Same i = get_or p i 0 ≡ get_or p' i 0

    look : (d : Side) (t : ℕ) → t < q → T (is_there m marks k d) → Same (row_at q Y d t * s + column_at q Z d t)
    look d t ht v = go (held q m s x y marks k some S hk stands.block.wide stands.beside d t ht v)
      where
        i : ℕ
        i = row_at q Y d t * s + column_at q Z d t

        go : Held q m s x y marks k some S hk stands.block.wide stands.beside i → Same i
        go (inl (j, h, u)) = f j h i u
        go (inr (b, v, u)) = e i (b, v, u)

    near_alike : part_near c rule s x y marks k p ≡ part_near c rule s x y marks k p'
    near_alike = near_same q c.wide some reach (part_place c rule s x y marks k) (part_place c rule s x y marks k) (is_there m marks k) p p' look

  -- what a block leaves at a place of its own
  pub put_at : (k : ℕ) (p : List ℕ) (i : ℕ) → k < m * m → length p ≡ n → InPart q m (place_at s y x) S k i
      → get_or (part c rule s x y marks k p) i 0 ≡ rule k (sides_of m marks k) (part_near c rule s x y marks k p) (i % s % q) (i / s % q)
  put_at k p i hk o t = patch_here (in_block q s (y * m + scan_y k) (x * m + scan_x k)) _ p i (rw o (in_plane i stands.block (block_in q m (place_at s y x) S k i hk t))) t

  kept : (k : ℕ) (p : List ℕ) → length (part c rule s x y marks k p) ≡ length p
  kept k p = length_patch (in_block q s (y * m + scan_y k) (x * m + scan_x k)) _ p

  pub parts : Parts sample_in (λ p. length p ≡ n) Outside (m * m) (InPart q m (place_at s y x) S) (part c rule s x y marks)
  parts = record {
    apart = block_apart q m (place_at s y x) S;
    outside = λ k i hk t (d, v, u).
        let b = block_in q m (place_at s y x) S k i hk t in
        let o = place_at s (beside_y y d) (beside_x x d) in
        another d v (sym (at_row (q * m) o i u) ∙ at_row (q * m) (place_at s y x) i b) (sym (at_column (q * m) o i u) ∙ at_column (q * m) (place_at s y x) i b);
    keeps = λ k p hk o. kept k p ∙ o;
    writes = λ k p i hk o out. patch_other (in_block q s (y * m + scan_y k) (x * m + scan_x k)) _ p i out;
    reads = λ k p p' hk o o' e f i t.
        put_at k p i hk o t
        ∙ ap (λ z. rule k (sides_of m marks k) z (i % s % q) (i / s % q)) (near_alike k hk p p' e f)
        ∙ sym (put_at k p' i hk o' t);
  }

  pub square_local : Local n (c.side * c.across) s x y marks (all_parts c rule s x y marks)
  square_local = record {
    keeps = λ p. steps_length (part c rule s x y marks) kept (blocks c) p;
    writes = λ p i o out. parts_writes parts p i o (λ k hk t. out (block_in q m (place_at s y x) S k i hk t));
    reads = λ p p' o o' e i t.
        let b = block_cover q m (place_at s y x) S i t in
        parts_reads parts p p' o o' (λ j (d, v, u). e d v j u) b.0 b.1 i b.2;
  }
