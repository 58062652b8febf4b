-- Rows of numbers as the loops make them, from how late the row above is. Assumes nothing.
use mathlib.Core.Path.{◌≡◌, refl, sym, ap, ap₂, subst, ◌∙◌}
use mathlib.Core.Bool.{Bool, true, cond, ◌&&◌}
use mathlib.Core.List.{List}
use Prim.Native.Nat.{ℕ, ◌+◌, ◌*◌, ◌-◌, ◌≤◌, ◌<◌, max}
use native.Mathlib.Decide.{ℕ_discrete, dec_lt}
use native.Mathlib.Omega.{arith}
use lib.Dec.{eqb}
use lib.ListN.{get_or, length, set, replicate, length-set, length-replicate, get_or-replicate}
use lib.Seq.{get_or-set_same, get_or-set_other}
use Rattle.std.proofs.Common.{◌++◌, take, drop, length-take-le, length-drop, length-append, get_or-take, get_or-drop}
use Rattle.std.proofs.Math.ListN.{get_or-append}
use borrow.Author.Tests.{lt-ltb}
use Rattle.laws.proofs.Digits.{pred_mul}
use Rattle.laws.proofs.Tests.{and_of, cond_same}
use Rattle.maps.specs.Neighbours.{Side, beside_x, beside_y, beside, in_picture, available}
use Rattle.maps.specs.Neighbours.Side.{B, C, D}
use Rattle.maps.specs.Size.{address}
use Rattle.maps.proofs.Beside.{available_at}
use Rattle.turn_count.specs.Due.{latest}
use Rattle.turn_count.specs.inner.Late.{late, more, late_on, late_above, LateRow, AboveRow, Edges, RunOn}
use Rattle.turn_count.proofs.Lateness.{late_latest, late_small, late_flat}
use Rattle.turn_count.proofs.Latest.{latest_none, latest_more, latest_same}

module _ (w : ℕ) (slices : List ℕ) (y : ℕ) where
  -- ---- one macroblock
  module _ (x : ℕ) (row : List ℕ) (hx : x < w) (r : LateRow w slices (y - 1) row) where
    -- a neighbour above, by its place in the row of numbers
    pub on_row : (k : Side) (b : Bool) (n : ℕ) → beside_y y k ≡ y - 1 → b ≡ available w slices x y k → n ≡ get_or row (beside_x x k) 0 + more k
        → cond b n 0 ≡ late_on w slices x y k
    on_row k b n v e f =
        ap (λ t. cond t n 0) e
        ∙ cond_same (available w slices x y k) n 0 (late w slices (beside_x x k) (beside_y y k) + more k) 0
        (λ t. f ∙ ap (λ m. m + more k) (r.is (beside_x x k) (available_at w x y slices k hx t).column ∙ ap (λ j. late w slices (beside_x x k) j) (sym v)))
        (λ _. refl)

    -- it lies in the row, and what is there is small
    pub row_room : (k : Side) → w ≤ 120 → y < 68 → available w slices x y k ≡ true → (beside_x x k < w) × (get_or row (beside_x x k) 0 ≤ 134)
    row_room k l m t =
        let b = (available_at w x y slices k hx t).column in
        (b, omega (arith, r.is (beside_x x k) b, late_small w slices (beside_x x k) (y - 1) b))

    -- the three of a macroblock that has them all, by how far their addresses are back
    same_slice : (k : Side) (a : ℕ) → in_picture w x y k ≡ true → a ≡ beside w x y k
        → eqb (get_or slices a 0) (get_or slices (address w x y) 0) ≡ available w slices x y k
    same_slice k a t e =
        ap (λ j. eqb (get_or slices j 0) (get_or slices (address w x y) 0)) e
        ∙ sym (ap (λ b. b && eqb (get_or slices (beside w x y k) 0) (get_or slices (address w x y) 0)) t)

    pub above_three : 0 < x → x + 1 < w → 0 < y → (m n : ℕ) → m ≡ w → n ≡ w
        → let up : ℕ → ℕ = λ i. get_or (take m (drop (y * w - w) slices)) i 0 in
        let here : ℕ = get_or (take n (drop (y * w) slices)) x 0 in
        max (cond (eqb (up x) here) (get_or row x 0 + 1) 0)
        (max (cond (eqb (up (x + 1)) here) (get_or row (x + 1) 0 + 2) 0)
        (cond (eqb (up (x - 1)) here) (get_or row (x - 1) 0) 0))
        ≡ late_above w slices x y
    above_three p q v m n em en =
        let e = pred_mul y w v in
        let l = lt-ltb 0 y v in
        let up : (i : ℕ) → i < w → get_or (take m (drop (y * w - w) slices)) i 0 ≡ get_or slices (y * w - w + i) 0 =
        λ i h. get_or-take m (drop (y * w - w) slices) i 0 (omega arith) ∙ get_or-drop (y * w - w) slices i 0 in
        let here : get_or (take n (drop (y * w) slices)) x 0 ≡ get_or slices (y * w + x) 0 =
        get_or-take n (drop (y * w) slices) x 0 (omega arith) ∙ get_or-drop (y * w) slices x 0 in
        ap₂ max (on_row B _ _ refl (ap₂ eqb (up x hx) here ∙ same_slice B (y * w - w + x) l (omega arith)) refl)
        (ap₂ max (on_row C _ _ refl (ap₂ eqb (up (x + 1) q) here ∙ same_slice C (y * w - w + (x + 1)) (and_of l (lt-ltb (x + 1) w q)) (omega arith)) refl)
        (on_row D _ _ refl (ap₂ eqb (up (x - 1) (omega arith)) here ∙ same_slice D (y * w - w + (x - 1)) (and_of l (lt-ltb 0 x p)) (omega arith)) (omega arith)))

  -- ---- the first column and the last, then those between
  pub edges_put : (a : List ℕ) (f l : ℕ) → length a ≡ 120 → 0 < w → w ≤ 120 → f ≡ late_above w slices 0 y → l ≡ late_above w slices (w - 1) y
      → Edges w slices y (set (set a 0 f) (w - 1) l)
  edges_put a f l n p m e g = record {
    long = long;
    first = go (ℕ_discrete 0 (w - 1));
    last = last;
  }
    where
      long₁ : length (set a 0 f) ≡ 120
      long₁ = length-set a 0 f ∙ n

      long : length (set (set a 0 f) (w - 1) l) ≡ 120
      long = length-set (set a 0 f) (w - 1) l ∙ long₁

      last : get_or (set (set a 0 f) (w - 1) l) (w - 1) 0 ≡ late_above w slices (w - 1) y
      last = get_or-set_same (set a 0 f) (w - 1) l 0 (omega (arith, long₁)) ∙ g

      go : Dec (0 ≡ w - 1) → get_or (set (set a 0 f) (w - 1) l) 0 0 ≡ late_above w slices 0 y
      go (yes q) = subst (λ i. get_or (set (set a 0 f) (w - 1) l) i 0 ≡ late_above w slices i y) (sym q) last
      go (no q) = get_or-set_other (set a 0 f) (w - 1) 0 l 0 q ∙ get_or-set_same a 0 f 0 (omega arith) ∙ e

  pub record Columns (x : ℕ) (above : List ℕ) : Type 0 where
    pub long : length above ≡ 120
    pub is : (i : ℕ) → i < x → get_or above i 0 ≡ late_above w slices i y
    pub last : get_or above (w - 1) 0 ≡ late_above w slices (w - 1) y

  pub columns_none : (above : List ℕ) → Edges w slices y above → Columns 1 above
  columns_none above e = record {
    long = e.long;
    is = λ i h. let q : i ≡ 0 = omega arith in rw q e.first;
    last = e.last;
  }

  pub columns_more : (x n : ℕ) (above : List ℕ) → x + 1 < w → w ≤ 120 → n ≡ late_above w slices x y → Columns x above → Columns (x + 1) (set above x n)
  columns_more x n above h l e b = record {
    long = length-set above x n ∙ b.long;
    is = λ i k. at i k (ℕ_discrete i x);
    last = get_or-set_other above x (w - 1) n 0 (omega arith) ∙ b.last;
  }
    where
      at : (i : ℕ) → i < x + 1 → Dec (i ≡ x) → get_or (set above x n) i 0 ≡ late_above w slices i y
      at i k (yes q) = rw q (get_or-set_same above x n 0 (omega (arith, b.long)) ∙ e)
      at i k (no q) = get_or-set_other above x i n 0 q ∙ b.is i (omega arith)

  pub columns_all : (x : ℕ) (above : List ℕ) → w ≤ x + 1 → Columns x above → AboveRow w slices y above
  columns_all x above h b = record { long = b.long; is = λ i k. at i k (dec_lt i x) }
    where
      at : (i : ℕ) → i < w → Dec (i < x) → get_or above i 0 ≡ late_above w slices i y
      at i k (yes l) = b.is i l
      at i k (no l) = let q : w - 1 ≡ i = omega arith in subst (λ j. get_or above j 0 ≡ late_above w slices j y) q b.last

  -- ---- the whole row
  -- the numbers of which those of the row are run on: its w columns are put, and what stands behind them does not count
  pub row_run : (above row front : List ℕ) (r : ℕ) → 0 < w → w ≤ 120 → length row ≡ 120 → AboveRow w slices y above → RunOn (take w above) front
      → r ≡ latest (length (take w above)) (λ j. get_or (take w above) j 0)
      → (r ≡ late w slices (w - 1) y) × LateRow w slices y (front ++ drop w row)
  row_run above row front r p m n a u e = (
    last,
    record {
      long = length-append front (drop w row) ∙ omega (arith, u.long, long, length-drop w row, n);
      is = λ i l. get_or-append front (drop w row) 0 i (omega (arith, u.long, long)) ∙ u.is i (omega (arith, long)) ∙ upto i l;
    },
  )
    where
      long : length (take w above) ≡ w
      long = length-take-le w above (omega (arith, a.long))

      upto : (i : ℕ) → i < w → latest (i + 1) (λ j. get_or (take w above) j 0) ≡ late w slices i y
      upto i l =
          latest_same (i + 1) (λ j. get_or (take w above) j 0) (λ j. late_above w slices j y)
          (λ j h. get_or-take w above j 0 (omega arith) ∙ a.is j (omega arith))
          ∙ sym (late_latest w slices i y)

      last : r ≡ late w slices (w - 1) y
      last =
          let q : length (take w above) ≡ w - 1 + 1 = omega (arith, long) in
          e ∙ ap (λ n. latest n (λ j. get_or (take w above) j 0)) q ∙ upto (w - 1) (omega arith)

  -- a single column is as late as those above make it
  pub row_single : (row : List ℕ) (n : ℕ) → w ≡ 1 → length row ≡ 120 → n ≡ late_above w slices 0 y
      → (n ≡ late w slices (w - 1) y) × LateRow w slices y (set row 0 n)
  row_single row n e l a = (
    is ∙ ap (λ i. late w slices i y) q,
    record { long = length-set row 0 n ∙ l; is = λ i h. let z : i ≡ 0 = omega (arith, e) in rw z (get_or-set_same row 0 n 0 (omega (arith, l)) ∙ is) },
  )
    where
      is : n ≡ late w slices 0 y
      is =
          let f : ℕ → ℕ = λ j. late_above w slices j y in
          let most : n ≡ max 0 n = omega arith in
          most ∙ latest_more 0 f 0 n (latest_none f) a ∙ sym (late_latest w slices 0 y)

      q : 0 ≡ w - 1
      q = omega (arith, e)

  pub row_flat : (n : ℕ) → 0 < w → w ≤ 120 → late_above w slices 0 y ≡ n → n ≡ late w slices (w - 1) (y - 1) + 2
      → (n ≡ late w slices (w - 1) y) × LateRow w slices y (replicate 120 n)
  row_flat n p l e f = (
    sym (late_flat w slices y n e f (w - 1) (omega arith)),
    record { long = length-replicate 120 n; is = λ i h. get_or-replicate 120 i n 0 (omega arith) ∙ sym (late_flat w slices y n e f i h) },
  )

-- ---- the first row is not late at all
module _ (w : ℕ) (slices : List ℕ) where
  late_none : (x : ℕ) → x < w → late w slices x 0 ≡ 0
  late_none x h = omega (arith, late_small w slices x 0 h)

  pub row_first : w ≤ 120 → LateRow w slices 0 (replicate 120 0)
  row_first l = record { long = refl; is = λ i h. get_or-replicate 120 i 0 0 (omega arith) ∙ sym (late_none i h) }

  pub latest_first : 0 < w → 0 ≡ latest 1 (λ y. late w slices (w - 1) y)
  latest_first p =
      let f : ℕ → ℕ = λ y. late w slices (w - 1) y in
      latest_more 0 f 0 0 (latest_none f) (sym (late_none (w - 1) (omega arith)))
