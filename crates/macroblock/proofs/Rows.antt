-- A square put row by row, each row through its own part of the plane, from parts of its prediction and of its residuals. Assumes nothing.
use mathlib.Core.Path.{◌≡◌, refl, sym, ap, ap₂, ◌∙◌}
use mathlib.Core.Bool.{true, false, ◌&&◌}
use mathlib.Core.List.{List}
use Prim.Native.Nat.{ℕ, ◌+◌, ◌*◌, ◌-◌, ◌<◌, ◌≤◌}
use native.Mathlib.Decide.{dec_lt}
use native.Mathlib.Nat.{mul-le-mul_right}
use native.Mathlib.Omega.{arith}
use borrow.Author.Tests.{lt-ltb, le-ltb, le-leb, leb-true, ltb-true}
use borrow.Rule.Slice.PartMut.{put_mid, mid_of}
use lib.Dec.{ltb, leb, ltb→lt}
use lib.IntN.{ℤ, pos, ◌+ℤ◌}
use lib.ListN.{length, get_or}
use Rattle.laws.specs.Patch.{patch}
use Rattle.laws.specs.Range.{at}
use Rattle.laws.proofs.Patches.{patch_same, patch_grow, put_patch, length_front}
use Rattle.laws.proofs.Stretches.{part_at}
use Rattle.laws.proofs.Tests.{and_both, and_of, not_both}
use Rattle.basics.specs.Clip.{Clip1}
use Rattle.residual.specs.Reconstruct.{put_square}
use Rattle.residual.proofs.Squares.{put_rows, length_rows, rows_none, rows_more}
use Rattle.macroblock.specs.inner.Blocks.{RoomIn, sum_over, added}

-- row y of a square lies in a list of n samples
pub record RowIn (side off apart n y : ℕ) : Type 0 where
  pub product : y * apart ≤ n
  pub whole : off + y * apart + side ≤ n

row_in : {side off apart n : ℕ} (y : ℕ) → RoomIn side off apart n → y < side → RowIn side off apart n y
row_in {side} {off} {apart} {n} y R h =
    let m : y * apart ≤ (side - 1) * apart = mul-le-mul_right apart (omega arith) in
    record { product = omega (arith, R.inside); whole = omega (arith, R.inside) }

-- the first y rows of a square are put: l is the plane before, l' the plane now
pub record Rows (n off s po ps : ℕ) (pred : List ℕ) (ρ : ℕ → ℕ → ℤ) (l : List ℕ) (y : ℕ) (l' : List ℕ) : Type 0 where
  pub most : y ≤ n
  pub put : l' ≡ put_rows n off s y (sum_over pred po ps ρ) l

-- the plane has kept its length, and row y lies in it and in the prediction
pub record AtRow (n off s po ps y : ℕ) (pred l l' : List ℕ) : Type 0 where
  pub long : length l' ≡ length l
  pub there : RowIn n off s (length l) y
  pub from : RowIn n po ps (length pred) y

module _ {n off s po ps : ℕ} {pred : List ℕ} {ρ : ℕ → ℕ → ℤ} {l : List ℕ} where
  pub none_yet : Rows n off s po ps pred ρ l 0 l
  none_yet = record { most = omega arith; put = rows_none n off s (sum_over pred po ps ρ) l }

  module _ {y : ℕ} {l' : List ℕ} (G : Rows n off s po ps pred ρ l y l') where
    pub same_long : length l' ≡ length l
    same_long = length_rows n off s y (sum_over pred po ps ρ) l l' G.put

    pub row_at : RoomIn n off s (length l) → RoomIn n po ps (length pred) → y < n → AtRow n off s po ps y pred l l'
    row_at R P h = record { long = same_long; there = row_in y R h; from = row_in y P h }

    pub all_put : n ≤ y → l' ≡ put_square n off s (sum_over pred po ps ρ) l
    all_put h = let e : y ≡ n = omega (arith, G.most) in G.put ∙ ap (λ r. put_rows n off s r (sum_over pred po ps ρ) l) e

    -- one more row, from the part of the prediction that begins with it
    pub one_more : {a : ℕ} {row : List ℕ} (σ : ℕ → ℤ) → n ≤ s → y < n → AtRow n off s po ps y pred l l' → a ≡ po + y * ps → ((x : ℕ) → x < n → σ x ≡ ρ x y)
        → row ≡ added n (mid_of a (length pred - a) pred) σ (mid_of (off + y * s) (length l' - (off + y * s)) l')
        → Rows n off s po ps pred ρ l (y + 1) (put_mid (off + y * s) (length l' - (off + y * s)) l' row)
    one_more {a} {row} σ wide h A begins same f = record {
      most = omega arith;
      put = rows_more n off s y (sum_over pred po ps ρ) wide l l' row (omega (arith, A.there.whole)) G.put
          (f ∙ patch_same (λ i. ltb i n) (λ i. ltb i n) _ (λ x. sum_over pred po ps ρ x y) (mid_of (off + y * s) (length l' - (off + y * s)) l') (λ i. refl) (λ i t. sum i (ltb→lt i n t)));
    }
      where
        sum : (i : ℕ) → i < n → Clip1 (pos (get_or (mid_of a (length pred - a) pred) i 0) +ℤ σ i) ≡ sum_over pred po ps ρ i y
        sum i t =
            ap₂ (λ p z. Clip1 (pos p +ℤ z)) (part_at 0 pred a (length pred - a) i (omega (arith, begins, A.from.whole)) ∙ ap (λ b. get_or pred (b + i) 0) begins) (same i t)

-- a sample as the sum of itself and 0
pub clip_byte : (p : ℕ) → p < 256 → p ≡ Clip1 (pos p +ℤ pos 0)
unfolding Clip1
clip_byte p h = rw (le-ltb (p + 0) 0 (omega arith), le-ltb 255 (p + 0) (omega arith)) (omega arith)

-- ---- eight samples of a row: four, and four more through the parts from place 4 on, whose residuals begin at place g
module _ (pred l l₁ row : List ℕ) (res : List ℤ) (g : ℕ) (σ : ℕ → ℤ) (p : 8 ≤ length pred) (r : g + 4 ≤ length res) (h : 8 ≤ length l)
    (first : (i : ℕ) → i < 4 → at res i ≡ σ i) (second : (i : ℕ) → i < 4 → at res (g + i) ≡ σ (4 + i)) where
  abbrev new : ℕ → ℕ
  new i = Clip1 (pos (get_or pred i 0) +ℤ σ i)

  abbrev later : ℕ → ℕ
  later i = Clip1 (pos (get_or (mid_of 4 (length pred - 4) pred) i 0) +ℤ get_or (mid_of g (length res - g) res) i (pos 0))

  same : (i : ℕ) → 4 ≤ i → i < 8 → later (i - 4) ≡ new i
  same i lo hi =
      let e : 4 + (i - 4) ≡ i = omega arith in
      ap₂ (λ p z. Clip1 (pos p +ℤ z)) (part_at 0 pred 4 (length pred - 4) (i - 4) (omega arith) ∙ ap (λ k. get_or pred k 0) e)
      (part_at (pos 0) res g (length res - g) (i - 4) (omega arith) ∙ second (i - 4) (omega arith) ∙ ap σ e)

  hit : (i : ℕ) → leb 4 i && ltb (i - 4) 4 ≡ true → (ltb i 8 ≡ true) × (later (i - 4) ≡ new i)
  hit i t =
      let b = and_both (leb 4 i) (ltb (i - 4) 4) t in
      let lo : 4 ≤ i = leb-true 4 i b.0 in
      let hi : i - 4 < 4 = ltb-true (i - 4) 4 b.1 in
      (lt-ltb i 8 (omega arith), same i lo (omega arith))

  miss : (i : ℕ) → leb 4 i && ltb (i - 4) 4 ≡ false → ltb i 4 ≡ ltb i 8
  miss i t = go (dec_lt i 4) (dec_lt i 8)
    where
      go : Dec (i < 4) → Dec (i < 8) → ltb i 4 ≡ ltb i 8
      go (yes a) k = lt-ltb i 4 a ∙ sym (lt-ltb i 8 (omega arith))
      go (no a) (yes b) = absurd (not_both (and_of (le-leb 4 i (omega arith)) (lt-ltb (i - 4) 4 (omega arith))) t)
      go (no a) (no b) = le-ltb i 4 (omega arith) ∙ sym (le-ltb i 8 (omega arith))

  front : l₁ ≡ added 4 pred (at res) l → l₁ ≡ added 4 pred σ l
  front e = e ∙ patch_same (λ i. ltb i 4) (λ i. ltb i 4) _ new l (λ i. refl) (λ i t. ap (λ z. Clip1 (pos (get_or pred i 0) +ℤ z)) (first i (ltb→lt i 4 t)))

  pub four_more : l₁ ≡ added 4 pred (at res) l → row ≡ added 4 (mid_of 4 (length pred - 4) pred) (at (mid_of g (length res - g) res)) (mid_of 4 (length l₁ - 4) l₁)
      → put_mid 4 (length l₁ - 4) l₁ row ≡ added 8 pred σ l
  four_more e f =
      ap (put_mid 4 (length l₁ - 4) l₁) f ∙ put_patch 4 (λ i. ltb i 4) later l₁ (omega (arith, length_front new 4 l l₁ (front e)))
      ∙ ap (patch (λ i. leb 4 i && ltb (i - 4) 4) (λ i. later (i - 4))) (front e)
      ∙ patch_grow (λ i. ltb i 4) (λ i. leb 4 i && ltb (i - 4) 4) (λ i. ltb i 8) new (λ i. later (i - 4)) l hit miss
