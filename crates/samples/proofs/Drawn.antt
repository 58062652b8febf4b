-- Whole blocks from the lines beside them and from a plane's numbers, once over the side. Assumes nothing.
use mathlib.Core.Path.{◌≡◌, refl, ap, ◌∙◌}
use mathlib.Core.Bool.{Bool, true, not, ◌&&◌}
use mathlib.Core.List.{List, [], ◌∷◌, ◌++◌}
use Prim.Native.Nat.{ℕ, ◌+◌, ◌-◌, ◌*◌, ◌/◌, ◌%◌, ◌≤◌, ◌<◌}
use native.Mathlib.Nat.{mod-lt, div-lt_iff_lt-mul}
use native.Mathlib.Omega.{arith}
use borrow.Rule.Slice.PartMut.{put_mid, mid_of}
use lib.Dec.{lit≤}
use lib.ListN.{length, get_or, drop, replicate}
use Rattle.laws.specs.Table.{table, block_of, onto}
use Rattle.laws.proofs.Ontos.{onto_none, onto_same}
use Rattle.laws.proofs.Sums.{sum_same}
use Rattle.laws.proofs.Tables.{get_d_table}
use Rattle.basics.specs.Near.{Near, near, vertical, horizontal, mean, dc}
use Rattle.basics.specs.declared.beside.Beside.{Beside}
use Rattle.basics.proofs.Dc.{SumOf, mean_is, dc_is}
use Rattle.basics.proofs.Fills.{fill_part}
use Rattle.basics.proofs.Near.{near_above, near_left}
use Rattle.samples.specs.Intra16x16.{pred_l}
use Rattle.samples.specs.IntraChroma.{region_dc, chroma_dc, pred_c}
use Rattle.samples.specs.PlaneMode.{plane}
use Rattle.samples.specs.declared.line.Around.{Around}
use Rattle.samples.specs.inner.Line.{sample, lists, Stands}

module _ (n : ℕ) (old : List ℕ) (pred : ℕ → ℕ → ℕ) where
  -- the first bytes are the block that `pred` gives, and the others are as they were
  abbrev pub Drawn : List ℕ → Type 0
  Drawn out = out ≡ block_of n pred ++ drop (n * n) old

  pub drawn : (f : ℕ → ℕ) {out : List ℕ} → out ≡ onto (n * n) f old → ((k : ℕ) → k < n * n → f k ≡ pred (k % n) (k / n)) → Drawn out
  drawn f e h = e ∙ onto_same (n * n) f _ old h

  -- so they are where all of them are one sample
  filled : (v : ℕ) {ys out : List ℕ} → n * n ≤ length old → ys ≡ replicate (length (mid_of 0 (n * n - 0) old)) v → out ≡ put_mid 0 (n * n - 0) old ys
      → ((x y : ℕ) → v ≡ pred x y) → Drawn out
  filled v long put q same = q ∙ fill_part 0 (n * n) v (λ k. pred (k % n) (k / n)) old old (omega arith) long (onto_none _ old) put (λ i _. same ((0 + i) % n) ((0 + i) / n))

-- lists of samples beside a block stand where their neighbourhood says
pub in_lists : (n : ℕ) (b : Beside) (corner : ℕ) → Stands n (lists b) (near b.above.now b.left.now corner)
in_lists n b corner =
    record {
      above_is = λ x _. near_above b.above.now b.left.now corner (0 + x * 1) (x + 1) (omega arith);
      left_is = λ y _. near_left b.above.now b.left.now corner (0 + y * 1) (y + 1) (omega arith);
    }

pub corner_is : (b : Beside) → b.corner ≡ near b.above.now b.left.now b.corner 0 0
unfolding near
corner_is b = refl

module _ (n : ℕ) (a : Around) (p : Near) (stands : Stands n a p) where
  -- the sum of a part of a side
  row_sum : (from k : ℕ) (s : ℕ) → from + k ≤ n → SumOf k (λ i. sample a.above (from + i)) s → SumOf k (λ x. p (from + x + 1) 0) s
  row_sum from k s long (e, b) = (e ∙ sum_same k _ _ (λ i h. stands.above_is (from + i) (omega arith)), b)

  column_sum : (from k : ℕ) (s : ℕ) → from + k ≤ n → SumOf k (λ i. sample a.left (from + i)) s → SumOf k (λ y. p 0 (from + y + 1)) s
  column_sum from k s long (e, b) = (e ∙ sum_same k _ _ (λ i h. stands.left_is (from + i) (omega arith)), b)

  -- DC by the sums of the sides that are there
  pub dc_near : (above left : Bool) {r s t : ℕ} → 1 ≤ n → r ≡ mean n above left s t % 256 → (above ≡ true → SumOf n (λ i. sample a.above (0 + i)) s)
      → (left ≡ true → SumOf n (λ i. sample a.left (0 + i)) t) → r ≡ dc n above left p
  dc_near above left {r} {s} {t} some er es et =
      dc_is n above left p (λ x. p (0 + x + 1) 0) (λ y. p 0 (0 + y + 1)) some er (λ h. row_sum 0 n s (omega arith) (es h)) (λ h. column_sum 0 n t (omega arith) (et h))
      (λ k _. ap (λ (i : ℕ). p i 0) (omega arith)) (λ k _. ap (λ (i : ℕ). p 0 i) (omega arith))

module _ (a : Around) (p : Near) (stands : Stands 8 a p) (above left : Bool) where
  -- the four regions, by the sums of half a side each
  pub regions_are : {a₀ a₄ l₀ l₄ r₀ r₁ r₂ r₃ : ℕ} → SumOf 4 (λ i. sample a.above (0 + i)) a₀ → SumOf 4 (λ i. sample a.above (4 + i)) a₄
      → SumOf 4 (λ i. sample a.left (0 + i)) l₀ → SumOf 4 (λ i. sample a.left (4 + i)) l₄
      → r₀ ≡ mean 4 above left a₀ l₀ % 256 → r₁ ≡ mean 4 above (left && not above) a₄ l₀ % 256
      → r₂ ≡ mean 4 (above && not left) left a₀ l₄ % 256 → r₃ ≡ mean 4 above left a₄ l₄ % 256
      → r₀ ∷ r₁ ∷ r₂ ∷ r₃ ∷ [] ≡ table 4 (λ k. region_dc above left p (k % 2 * 4) (k / 2 * 4))
  unfolding table region_dc
  regions_are {a₀} {a₄} {l₀} {l₄} w₀ w₄ v₀ v₄ h₀ h₁ h₂ h₃ =
      let ea₀ = row_sum 8 a p stands 0 4 a₀ (omega arith) w₀ in
      let ea₄ = row_sum 8 a p stands 4 4 a₄ (omega arith) w₄ in
      let el₀ = column_sum 8 a p stands 0 4 l₀ (omega arith) v₀ in
      let el₄ = column_sum 8 a p stands 4 4 l₄ (omega arith) v₄ in
      rw (means above left ea₀.1 el₀.1 h₀, means above (left && not above) ea₄.1 el₀.1 h₁, means (above && not left) left ea₀.1 el₄.1 h₂, means above left ea₄.1 el₄.1 h₃, ea₀.0, ea₄.0, el₀.0, el₄.0)
    where
      means : (above left : Bool) {a l r : ℕ} → a ≤ 255 * 4 → l ≤ 255 * 4 → r ≡ mean 4 above left a l % 256 → r ≡ mean 4 above left a l
      means above left ha hl h = mean_is 4 above left _ _ (omega arith) (λ _. ha) (λ _. hl) h

  -- each sample is its region's
  pub region_at : {d : List ℕ} → d ≡ table 4 (λ k. region_dc above left p (k % 2 * 4) (k / 2 * 4))
      → (k : ℕ) → k < 64 → get_or d (k / 32 * 2 + k % 8 / 4) 0 ≡ chroma_dc above left p (k % 8) (k / 8)
  region_at e k h =
      let r : ℕ = k / 32 * 2 + k % 8 / 4 in
      let x : r % 2 * 4 ≡ k % 8 / 4 * 4 = omega arith in
      let y : r / 2 * 4 ≡ k / 8 / 4 * 4 = omega arith in
      ap (λ (l : List ℕ). get_or l r 0) e ∙ get_d_table 0 4 _ r (omega arith) ∙ rw (x, y)

-- ---- each mode's block, as its function leaves it
module _ (n : ℕ) (a : Around) (p : Near) (stands : Stands n a p) (old : List ℕ) (pred : ℕ → ℕ → ℕ) where
  down_is : {out : List ℕ} → 1 ≤ n → out ≡ onto (n * n) (λ k. sample a.above (k % n)) old → ((x y : ℕ) → vertical p x y ≡ pred x y) → Drawn n old pred out
  down_is some e h = drawn n old pred _ e (λ k _. stands.above_is (k % n) (mod-lt k some) ∙ h (k % n) (k / n))

  across_is : {out : List ℕ} → 1 ≤ n → out ≡ onto (n * n) (λ k. sample a.left (k / n)) old → ((x y : ℕ) → horizontal p x y ≡ pred x y) → Drawn n old pred out
  across_is some e h = drawn n old pred _ e (λ k l. stands.left_is (k / n) ((div-lt_iff_lt-mul some).1 l) ∙ h (k % n) (k / n))

module _ (mode : ℕ) (above left : Bool) (p : Near) (old : List ℕ) where
  abbrev luma : ℕ → ℕ → ℕ
  luma = pred_l mode above left p

  abbrev chroma : ℕ → ℕ → ℕ
  chroma = pred_c mode above left p

  pub luma_down : (a : Around) {out : List ℕ} → mode ≡ 0 → Stands 16 a p → out ≡ onto 256 (λ k. sample a.above (k % 16)) old → Drawn 16 old luma out
  unfolding pred_l
  luma_down a h s e = down_is 16 a p s old luma (lit≤ tt) e (λ x y. rw h)

  pub luma_across : (a : Around) {out : List ℕ} → mode ≡ 1 → Stands 16 a p → out ≡ onto 256 (λ k. sample a.left (k / 16)) old → Drawn 16 old luma out
  unfolding pred_l
  luma_across a h s e = across_is 16 a p s old luma (lit≤ tt) e (λ x y. rw h)

  pub luma_dc : {out : List ℕ} → (v : ℕ) → mode ≡ 2 → 256 ≤ length old → v ≡ dc 16 above left p → {ys : List ℕ} → ys ≡ replicate (length (mid_of 0 256 old)) v
      → out ≡ put_mid 0 256 old ys → Drawn 16 old luma out
  unfolding pred_l
  luma_dc v h long e put q = filled 16 old luma v long put q (λ x y. rw h e)

  pub luma_plane : {out : List ℕ} → mode ≡ 3 → Drawn 16 old (plane 8 5 p) out → Drawn 16 old luma out
  unfolding pred_l
  luma_plane h e = rw h e

  pub chroma_dc_lem : {out : List ℕ} → mode ≡ 0 → Drawn 8 old (chroma_dc above left p) out → Drawn 8 old chroma out
  unfolding pred_c
  chroma_dc_lem h e = rw h e

  pub chroma_across : (a : Around) {out : List ℕ} → mode ≡ 1 → Stands 8 a p → out ≡ onto 64 (λ k. sample a.left (k / 8)) old → Drawn 8 old chroma out
  unfolding pred_c
  chroma_across a h s e = across_is 8 a p s old chroma (lit≤ tt) e (λ x y. rw h)

  pub chroma_down : (a : Around) {out : List ℕ} → mode ≡ 2 → Stands 8 a p → out ≡ onto 64 (λ k. sample a.above (k % 8)) old → Drawn 8 old chroma out
  unfolding pred_c
  chroma_down a h s e = down_is 8 a p s old chroma (lit≤ tt) e (λ x y. rw h)

  pub chroma_plane : {out : List ℕ} → mode ≡ 3 → Drawn 8 old (plane 4 34 p) out → Drawn 8 old chroma out
  unfolding pred_c
  chroma_plane h e = rw h e
