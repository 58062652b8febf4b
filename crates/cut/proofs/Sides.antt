-- Which sides of a block are there, as the code tells it. For every cut. Assumes nothing.
use mathlib.Core.Path.{◌≡◌, refl, sym, ap, ◌∙◌}
use mathlib.Core.Bool.{Bool, true, false, cond, ◌&&◌}
use Prim.Native.Nat.{ℕ, ◌+◌, ◌-◌, ◌<◌, ◌≤◌, min}
use native.Mathlib.Omega.{arith}
use borrow.Author.Tests.{eqb-false, le-leb, lt-ltb, ne_eqb}
use lib.Dec.{eqb, ltb, leb}
use Rattle.basics.specs.Nnz.{blk_idx}
use Rattle.maps.specs.Neighbours.{Side}
use Rattle.cut.specs.Cut.{scan_x, scan_y, held_by, is_there, sides_of, sides_in}
use Rattle.maps.specs.Neighbours.Side.{A, B, C, D}
use Rattle.cut.specs.Cut.Holder.{own, other, nobody}
use Rattle.cut.proofs.Scan.{in_four, number_is, left_first, above_first, corner_first}

-- block k stands in one of m columns
module _ (m k : ℕ) (marks : Side → Bool) (hu : scan_x k < m) where
  abbrev u : ℕ
  u = scan_x k

  abbrev v : ℕ
  v = scan_y k

  of : blk_idx u v ≡ k
  of = number_is k

  pub above_is : cond (eqb v 0) (marks B) true ≡ is_there m marks k B
  unfolding is_there
  above_is = go (eqb v 0) refl
    where
      go : (b : Bool) → eqb v 0 ≡ b → cond b (marks B) true
          ≡ held_by marks (cond b (cond (eqb (u + 1) 0) (other D) (cond (leb (u + 1) m) (other B) (other C))) (cond (eqb (u + 1) 0) (other A) (cond (leb (u + 1) m && ltb (blk_idx (u + 1 - 1) (v - 1)) k) own nobody)))
      go true e = rw (ne_eqb (u + 1) 0 (omega arith), le-leb (u + 1) m (omega (arith, hu)))
      go false e =
          let z : v ≡ 0 → ⊥ = eqb-false v 0 e in
          let l : blk_idx (u + 1 - 1) (v - 1) < k = above_first (u + 1 - 1) v k (omega arith) (ap (λ n. blk_idx n v) (let f : u + 1 - 1 ≡ u = omega arith in f) ∙ of) in
          rw (ne_eqb (u + 1) 0 (omega arith), le-leb (u + 1) m (omega (arith, hu)), lt-ltb (blk_idx (u + 1 - 1) (v - 1)) k l)

  pub left_is : cond (eqb u 0) (marks A) true ≡ is_there m marks k A
  unfolding is_there
  left_is = rw (ne_eqb (v + 1) 0 (omega arith)) (go (eqb u 0) refl)
    where
      go : (b : Bool) → eqb u 0 ≡ b → cond b (marks A) true ≡ held_by marks (cond b (other A) (cond (leb u m && ltb (blk_idx (u - 1) (v + 1 - 1)) k) own nobody))
      go true e = refl
      go false e =
          let z : u ≡ 0 → ⊥ = eqb-false u 0 e in
          let l : blk_idx (u - 1) (v + 1 - 1) < k = left_first u (v + 1 - 1) k (omega arith) (ap (λ n. blk_idx u n) (let f : v + 1 - 1 ≡ v = omega arith in f) ∙ of) in
          rw (le-leb u m (omega (arith, hu)), lt-ltb (blk_idx (u - 1) (v + 1 - 1)) k l)

  pub corner_is : cond (eqb v 0) (cond (eqb u 0) (marks D) (marks B)) (cond (eqb u 0) (marks A) true) ≡ is_there m marks k D
  unfolding is_there
  corner_is = go (eqb v 0) (eqb u 0) refl refl
    where
      go : (b c : Bool) → eqb v 0 ≡ b → eqb u 0 ≡ c → cond b (cond c (marks D) (marks B)) (cond c (marks A) true)
          ≡ held_by marks (cond b (cond c (other D) (cond (leb u m) (other B) (other C))) (cond c (other A) (cond (leb u m && ltb (blk_idx (u - 1) (v - 1)) k) own nobody)))
      go true true e f = refl
      go true false e f = rw (le-leb u m (omega (arith, hu)))
      go false true e f = refl
      go false false e f =
          let z : v ≡ 0 → ⊥ = eqb-false v 0 e in
          let w : u ≡ 0 → ⊥ = eqb-false u 0 f in
          rw (le-leb u m (omega (arith, hu)), lt-ltb (blk_idx (u - 1) (v - 1)) k (corner_first u v k (omega arith) (omega arith) of))

-- above and to the right, wherever block k stands
module _ (m k : ℕ) (marks : Side → Bool) where
  abbrev U : ℕ
  U = scan_x k

  abbrev W : ℕ
  W = scan_y k

  pub right_is : cond (eqb W 0) (cond (leb (U + 2) m) (marks B) (marks C)) (leb (U + 2) m && ltb (blk_idx (U + 1) (W - 1)) k) ≡ is_there m marks k C
  unfolding is_there
  right_is = rw (ne_eqb (U + 2) 0 (omega arith)) (go (eqb W 0) (leb (U + 2) m) refl)
    where
      go : (b c : Bool) → eqb W 0 ≡ b → cond b (cond c (marks B) (marks C)) (c && ltb (blk_idx (U + 1) (W - 1)) k)
          ≡ held_by marks (cond b (cond c (other B) (other C)) (cond (c && ltb (blk_idx (U + 2 - 1) (W - 1)) k) own nobody))
      go true true e = refl
      go true false e = refl
      go false c e = ap (λ n. c && ltb (blk_idx n (W - 1)) k) (let f : U + 1 ≡ U + 2 - 1 = omega arith in f) ∙ held (c && ltb (blk_idx (U + 2 - 1) (W - 1)) k)
        where
          held : (b : Bool) → b ≡ held_by marks (cond b own nobody)
          held true = refl
          held false = refl

-- the four of them, for any numbers
pub told : (m k : ℕ) (marks : Side → Bool) → let u = scan_x k in let v = scan_y k in record {
  above = cond (eqb v 0) (marks B) true;
  left = cond (eqb u 0) (marks A) true;
  corner = cond (eqb v 0) (cond (eqb u 0) (marks D) (marks B)) (cond (eqb u 0) (marks A) true);
  above_right = cond (eqb v 0) (cond (leb (u + 2) (min m 4)) (marks B) (marks C)) (leb (u + 2) (min m 4) && ltb (blk_idx (u + 1) (v - 1)) k);
} ≡ sides_in m marks k
told m k marks =
    let h = in_four k in
    λ i. record { above = above_is 4 k marks h i; left = left_is 4 k marks h i; corner = corner_is 4 k marks h i; above_right = right_is (min m 4) k marks i }

-- and of a block that stands in one of m columns
pub sides_are : (m k : ℕ) (marks : Side → Bool) → scan_x k < m → m ≤ 4 → sides_in m marks k ≡ sides_of m marks k
sides_are m k marks h few =
    let f = in_four k in
    let e : min m 4 ≡ m = omega arith in
    λ i. record {
      above = (sym (above_is 4 k marks f) ∙ above_is m k marks h) i;
      left = (sym (left_is 4 k marks f) ∙ left_is m k marks h) i;
      corner = (sym (corner_is 4 k marks f) ∙ corner_is m k marks h) i;
      above_right = is_there (e i) marks k C;
    }
