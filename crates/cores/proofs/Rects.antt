-- Rectangles of samples: rows put one after the other, and what stands where afterwards. Assumes nothing.
use mathlib.Core.Path.{◌≡◌, refl, ap, ap₂, ◌∙◌}
use mathlib.Core.Bool.{Bool, true, false, ◌&&◌}
use mathlib.Core.List.{List}
use Prim.Native.Nat.{ℕ, ◌+◌, ◌*◌, ◌-◌, ◌/◌, ◌%◌, ◌<◌, ◌≤◌}
use native.Mathlib.Nat.{div-add-mod', mul-le-mul_right}
use native.Mathlib.Omega.{arith}
use borrow.Author.Tests.{lt-ltb, le-leb, leb-true, ltb-true}
use borrow.Rule.Slice.PartMut.{put_mid, mid_of}
use lib.Arith.{digits_div, digits_mod}
use lib.Dec.{ltb, leb, ltb→lt}
use lib.ListN.{length, get_or}
use Rattle.laws.proofs.Patches.{length_patch, patch_other, patch_here, patch_same, front}
use Rattle.laws.proofs.Stretches.{part_at}
use Rattle.laws.proofs.Tests.{true_t, T_true, and_both, and_of, not_both}
use Rattle.residual.proofs.Squares.{put_rows, length_rows, rows_none, rows_more}
use Rattle.cores.specs.inner.Rects.{RectIn, in_rect, put_rect, put_rect_if}

-- a row that is copied from the part of a list that begins at a shows the list's samples from there on
pub row_from : (a w : ℕ) (from l row : List ℕ) → a + w ≤ length from → row ≡ front (λ i. get_or (mid_of a (length from - a) from) i 0) w l
    → row ≡ front (λ i. get_or from (a + i) 0) w l
row_from a w from l row h e =
    e ∙ patch_same (λ i. ltb i w) (λ i. ltb i w) _ (λ i. get_or from (a + i) 0) l (λ i. refl)
    (λ i t. let k : i < w = ltb→lt i w t in part_at 0 from a (length from - a) i (omega arith))

-- ---- rows one after the other
-- the first j rows are put, l is the list before and l' the list now
module _ (w h first apart off s : ℕ) (from l : List ℕ) where
  abbrev taken : ℕ → ℕ → ℕ
  taken i j = get_or from (first + j * apart + i) 0

  pub record Rows (j : ℕ) (l' : List ℕ) : Type 0 where
    pub most : j ≤ h
    pub put : l' ≡ put_rows w off s j taken l

  pub same_long : (j : ℕ) (l' : List ℕ) → Rows j l' → length l' ≡ length l
  same_long j l' i = length_rows w off s j taken l l' i.put

  -- row j lies in both lists
  pub record RowAt (j : ℕ) (l' : List ℕ) : Type 0 where
    pub long : length l' ≡ length l
    pub read : first + j * apart + w ≤ length from
    pub write : off + j * s + w ≤ length l

  pub row_at : (j : ℕ) (l' : List ℕ) → RectIn w h first apart (length from) → RectIn w h off s (length l) → Rows j l' → j < h → RowAt j l'
  row_at j l' r t i k =
      let a : j * apart ≤ (h - 1) * apart = mul-le-mul_right apart (omega arith) in
      let b : j * s ≤ (h - 1) * s = mul-le-mul_right s (omega arith) in
      record { long = same_long j l' i; read = omega (arith, r.inside); write = omega (arith, t.inside) }

  pub none_yet : Rows 0 l
  none_yet = record { most = omega arith; put = rows_none w off s taken l }

  pub one_more : (j : ℕ) (l' row : List ℕ) → w ≤ s → Rows j l' → RowAt j l' → j < h
      → row ≡ front (λ i. get_or (mid_of (first + j * apart) (length from - (first + j * apart)) from) i 0) w (mid_of (off + j * s) (length l' - (off + j * s)) l')
      → Rows (j + 1) (put_mid (off + j * s) (length l' - (off + j * s)) l' row)
  one_more j l' row wide i k below e = record {
    most = omega arith;
    put = rows_more w off s j taken wide l l' row (omega (arith, k.write)) i.put (row_from (first + j * apart) w from _ row k.read e);
  }

  pub all_put : (j : ℕ) (l' : List ℕ) → Rows j l' → h ≤ j → l' ≡ put_rect w h off s taken l
  all_put j l' i k = let e : j ≡ h = omega (arith, i.most) in i.put ∙ ap (λ r. put_rows w off s r taken l) e

-- ---- what stands where afterwards
module _ (w h off s : ℕ) (u : ℕ → ℕ → ℕ) (l : List ℕ) where
  pub rect_at : (i j : ℕ) → w ≤ s → i < w → j < h → off + j * s + i < length l → get_or (put_rect w h off s u l) (off + j * s + i) 0 ≡ u i j
  rect_at i j wide hi hj k =
      let n = off + j * s + i in
      let e : n - off ≡ j * s + i = omega arith in
      let d : (n - off) / s ≡ j = ap (λ m. m / s) e ∙ digits_div j (omega arith) in
      let m : (n - off) % s ≡ i = ap (λ m. m % s) e ∙ digits_mod j (omega arith) in
      patch_here (in_rect w h off s) (λ i. u ((i - off) % s) ((i - off) / s)) l n k
      (true_t (in_rect w h off s n) (and_of (and_of (le-leb off n (omega arith)) (lt-ltb ((n - off) / s) h (omega arith))) (lt-ltb ((n - off) % s) w (omega arith))))
      ∙ ap₂ u m d

  -- a place that is none of the rectangle's
  pub rect_other : (n : ℕ) → ((i j : ℕ) → i < w → j < h → ¬ (n ≡ off + j * s + i)) → get_or (put_rect w h off s u l) n 0 ≡ get_or l n 0
  rect_other n none =
      patch_other (in_rect w h off s) (λ i. u ((i - off) % s) ((i - off) / s)) l n (λ t.
      let b = and_both (leb off n && ltb ((n - off) / s) h) (ltb ((n - off) % s) w) (T_true (in_rect w h off s n) t) in
      let a = and_both (leb off n) (ltb ((n - off) / s) h) b.0 in
      let lo : off ≤ n = leb-true off n a.0 in
      none ((n - off) % s) ((n - off) / s) (ltb-true _ w b.1) (ltb-true _ h a.1) (omega (arith, div-add-mod' (n - off) s)))

  pub rect_length : length (put_rect w h off s u l) ≡ length l
  rect_length = length_patch (in_rect w h off s) (λ i. u ((i - off) % s) ((i - off) / s)) l

  -- the same where it is marked
  pub marked_at : (m : Bool) (i j : ℕ) → m ≡ true → w ≤ s → i < w → j < h → off + j * s + i < length l
      → get_or (put_rect_if m w h off s u l) (off + j * s + i) 0 ≡ u i j
  marked_at true i j t wide hi hj k = rect_at i j wide hi hj k
  marked_at false i j t wide hi hj k = absurd (not_both t refl)

  pub marked_other : (m : Bool) (n : ℕ) → ((i j : ℕ) → i < w → j < h → ¬ (n ≡ off + j * s + i)) → get_or (put_rect_if m w h off s u l) n 0 ≡ get_or l n 0
  marked_other true n none = rect_other n none
  marked_other false n none = refl

  pub marked_length : (m : Bool) → length (put_rect_if m w h off s u l) ≡ length l
  marked_length true = rect_length
  marked_length false = refl
