-- Residuals where a macroblock's numbers stood: all of them in 4x4 blocks, and the luma's in 8x8 blocks. Assumes nothing.
use mathlib.Core.Path.{◌≡◌, refl, sym, ap, ◌∙◌, subst}
use mathlib.Core.Logic.{◌≢◌}
use mathlib.Core.Bool.{◌&&◌}
use mathlib.Core.List.{List, ◌++◌}
use Prim.Native.Nat.{ℕ, zero, suc, ◌+◌, ◌*◌, ◌-◌, ◌/◌, ◌<◌, ◌≤◌}
use native.Mathlib.Decide.{dec_lt}
use native.Mathlib.Omega.{arith}
use borrow.Rule.Slice.PartMut.{put_mid, mid_of}
use lib.IntN.{ℤ, pos}
use lib.ListN.{length, get_or, take, drop, length-append, length-take, length-drop}
use lib.Seq.{get_or-take}
use Rattle.laws.specs.Range.{at}
use Rattle.laws.specs.Table.{all_below, all_blocks, blockwise}
use Rattle.laws.proofs.Blockwise.{blockwise_at}
use Rattle.laws.proofs.Stretches.{part_at}
use Rattle.laws.proofs.Tables.{length_table, get_d_table, table_same}
use Rattle.laws.proofs.Tests.{all_same, all_split}
use Rattle.residual.specs.Inverse.{inverse4x4, in_range4x4}
use Rattle.residual.specs.Quads.{coded_quad, coded_quads}
use Rattle.residual.proofs.Quads.{blank_quad}
use Rattle.transform_8x8.specs.Inverse8x8.{inverse8x8, in_range8x8}
use Rattle.transform_8x8.proofs.Firsts.{blank_block}
use Rattle.macroblock.specs.Kinds.{coefficients, residual4x4, residual8x8}
use Rattle.macroblock.specs.Rules.{luma_in_range, chroma_in_range}
use Rattle.macroblock.proofs.Halves.{early, late}
use Rattle.macroblock.specs.inner.Blocks.{Transformed, Coded, first_for}

-- ---- the blocks of a list's parts
-- those of the first 256 numbers are those of the list
front_block : (l : List ℤ) (k : ℕ) → k < 4 → coefficients 64 (take 256 l) k ≡ coefficients 64 l k
front_block l k h = table_same 64 _ _ (λ i hi. get_or-take 256 l (64 * k + i) (pos 0) (omega arith))

-- those of the part from block `first` on are those from there on
part_block : (l : List ℤ) (n first b : ℕ) → 16 * b + 16 ≤ n → coefficients 16 (mid_of (16 * first) n l) b ≡ coefficients 16 l (first + b)
part_block l n first b room =
    table_same 16 _ _ (λ i hi. part_at (pos 0) l (16 * first) n (16 * b + i) (omega arith)
    ∙ ap (at l) (let e : 16 * first + (16 * b + i) ≡ 16 * (first + b) + i = omega arith in e))

-- ---- in range
module _ (l : List ℤ) (long : length l ≡ 384) where
  -- a whole list in sixteens
  pub all_told : all_blocks 16 in_range4x4 l ≡ luma_in_range 0 l && chroma_in_range l
  all_told = ap (λ n. all_below n (λ b. in_range4x4 (coefficients 16 l b))) (let e : length l / 16 ≡ 24 = omega arith in e) ∙ all_split 16 8 _

  -- its first 256 numbers in 64s, and the others in sixteens
  pub front_told : all_blocks 64 in_range8x8 (take 256 l) ≡ luma_in_range 1 l
  front_told =
      ap (λ n. all_below n (λ k. in_range8x8 (coefficients 64 (take 256 l) k))) (let e : length (take 256 l) / 64 ≡ 4 = omega (arith, length-take 256 l) in e)
      ∙ all_same 4 _ _ (λ k h. ap in_range8x8 (front_block l k h))

  pub rest_told : all_blocks 16 in_range4x4 (mid_of 256 (length l - 256) l) ≡ chroma_in_range l
  rest_told =
      let m = mid_of 256 (length l - 256) l in
      ap (λ n. all_below n (λ b. in_range4x4 (coefficients 16 m b)))
      (let e : length m / 16 ≡ 8 = omega (arith, length-take (length l - 256) (drop 256 l), length-drop 256 l) in e)
      ∙ all_same 8 _ _ (λ b h. ap in_range4x4 (part_block l (length l - 256) 16 b (omega arith)))

-- ---- a list transformed block by block holds the definition's residuals
blocks_at : (l : List ℤ) (b x y : ℕ) → 16 * b + 16 ≤ length l → x < 4 → y < 4 → at (blockwise 16 inverse4x4 l) (16 * b + (4 * y + x)) ≡ residual4x4 l b x y
unfolding residual4x4
blocks_at l b x y h hx hy = blockwise_at 16 b (4 * y + x) inverse4x4 l (omega arith) (omega arith)

blocks_8x8_at : (l : List ℤ) (k x y : ℕ) → 64 * k + 64 ≤ length l → x < 8 → y < 8 → at (blockwise 64 inverse8x8 l) (64 * k + (8 * y + x)) ≡ residual8x8 l k x y
unfolding residual8x8
blocks_8x8_at l k x y h hx hy = blockwise_at 64 k (8 * y + x) inverse8x8 l (omega arith) (omega arith)

pub all_transformed : (l l' : List ℤ) → length l ≡ 384 → l' ≡ blockwise 16 inverse4x4 l → Transformed 0 l l'
all_transformed l l' n e = record {
  before = λ k x y h hx hy. absurd (omega arith);
  after = λ b x y low h hx hy. ap (λ t. at t (16 * b + (4 * y + x))) e ∙ blocks_at l b x y (omega arith) hx hy;
}

front_blocks : (l : List ℤ) (k x y : ℕ) → k < 4 → residual8x8 (take 256 l) k x y ≡ residual8x8 l k x y
unfolding residual8x8
front_blocks l k x y h = ap (λ t. at (inverse8x8 t) (8 * y + x)) (front_block l k h)

part_blocks : (l : List ℤ) (n first b x y : ℕ) → 16 * b + 16 ≤ n → residual4x4 (mid_of (16 * first) n l) b x y ≡ residual4x4 l (first + b) x y
unfolding residual4x4
part_blocks l n first b x y room = ap (λ t. at (inverse4x4 t) (4 * y + x)) (part_block l n first b room)

-- the marks of all quads, where all blocks are 4x4
pub all_coded : (l l' : List ℤ) (coded : List ℕ) → length l ≡ 384 → l' ≡ blockwise 16 inverse4x4 l → coded ≡ coded_quads l → Coded l' coded
all_coded l l' coded long e f = record {
  six = ap length f ∙ length_table 0 (length l / 64) (coded_quad l) ∙ omega arith;
  blank = λ q i hq hi z.
      ap (λ t. at t (64 * q + i)) e
      ∙ blank_quad l q i hi (omega arith) (sym (ap (λ t. get_or t q 0) f ∙ get_d_table 0 (length l / 64) (coded_quad l) q (omega arith)) ∙ z);
}

-- the first 256 numbers transformed in 64s, and those from block 16 on in sixteens, each put through its own part of `out`
module _ (l out xs : List ℤ) (long : length l ≡ 384) (room : length out ≡ 384) (front : xs ≡ blockwise 64 inverse8x8 (take 256 l)) where
  abbrev m : List ℤ
  m = xs ++ drop 256 out

  abbrev rest : List ℤ
  rest = mid_of 256 (length l - 256) l

  head_long : length (take 256 l) ≡ 256
  head_long = length-take 256 l ∙ omega arith

  tail_long : length rest ≡ 128
  tail_long = length-take (length l - 256) (drop 256 l) ∙ omega (arith, length-drop 256 l)

  xs_long : length xs ≡ 256
  xs_long = ap length front ∙ length_table (pos 0) (length (take 256 l)) _ ∙ head_long

  module _ (ys : List ℤ) (e : ys ≡ blockwise 16 inverse4x4 rest) where
    abbrev k : ℕ
    k = length m - 256

    ys_long : length ys ≡ 128
    ys_long = ap length e ∙ length_table (pos 0) (length rest) _ ∙ tail_long

    -- a place before 256, and one after
    in_luma_lem : (i : ℕ) → i < 256 → at (put_mid 256 k m ys) i ≡ at (blockwise 64 inverse8x8 (take 256 l)) i
    in_luma_lem i h = early (pos 0) 256 xs out ys xs_long k i h ∙ ap (λ t. at t i) front

    in_chroma_lem : (i j : ℕ) → i ≡ 256 + j → j < 128 → at (put_mid 256 k m ys) i ≡ at (blockwise 16 inverse4x4 rest) j
    in_chroma_lem i j n h = late (pos 0) 256 xs out ys xs_long k i j n (omega (arith, ys_long)) ∙ ap (λ t. at t j) e

    pub both_transformed : Transformed 16 l (put_mid 256 k m ys)
    both_transformed = record {
      before = λ b x y h hx hy.
          in_luma_lem (64 * b + (8 * y + x)) (omega arith) ∙ blocks_8x8_at (take 256 l) b x y (omega (arith, head_long)) hx hy ∙ front_blocks l b x y (omega arith);
      after = λ b x y low h hx hy.
          in_chroma_lem (16 * b + (4 * y + x)) (16 * (b - 16) + (4 * y + x)) (omega arith) (omega arith)
          ∙ blocks_at rest (b - 16) x y (omega (arith, tail_long)) hx hy
          ∙ part_blocks l (length l - 256) 16 (b - 16) x y (omega arith) ∙ ap (λ n. residual4x4 l n x y) (let e : 16 + (b - 16) ≡ b = omega arith in e);
    }

    -- and the marks of their quads
    module _ (coded xc yc : List ℕ) (six : length coded ≡ 6) (front-marks : xc ≡ coded_quads (take 256 l)) (rest-marks : yc ≡ coded_quads rest) where
      abbrev c : ℕ
      c = length (xc ++ drop 4 coded) - 4

      xc_long : length xc ≡ 4
      xc_long = ap length front-marks ∙ length_table 0 (length (take 256 l) / 64) _ ∙ omega (arith, head_long)

      yc_long : length yc ≡ 2
      yc_long = ap length rest-marks ∙ length_table 0 (length rest / 64) _ ∙ omega (arith, tail_long)

      blank : (q i : ℕ) → q < 6 → i < 64 → Dec (q < 4) → get_or (put_mid 4 c (xc ++ drop 4 coded) yc) q 0 ≡ 0 → at (put_mid 256 k m ys) (64 * q + i) ≡ pos 0
      blank q i hq hi (yes p) z =
          in_luma_lem (64 * q + i) (omega arith)
          ∙ blank_block (take 256 l) q i hi (omega (arith, head_long))
          (sym (early 0 4 xc coded yc xc_long c q p ∙ ap (λ t. get_or t q 0) front-marks
          ∙ get_d_table 0 (length (take 256 l) / 64) (coded_quad (take 256 l)) q (omega (arith, head_long))) ∙ z)
      blank q i hq hi (no p) z =
          let j = q - 4 in
          let n : 64 * q + i ≡ 256 + (64 * j + i) = omega arith in
          in_chroma_lem (64 * q + i) (64 * j + i) n (omega arith)
          ∙ blank_quad rest j i hi (omega (arith, tail_long))
          (sym (late 0 4 xc coded yc xc_long c q j (omega arith) (omega (arith, yc_long)) ∙ ap (λ t. get_or t j 0) rest-marks
          ∙ get_d_table 0 (length rest / 64) (coded_quad rest) j (omega (arith, tail_long))) ∙ z)

      pub both_coded : Coded (put_mid 256 k m ys) (put_mid 4 c (xc ++ drop 4 coded) yc)
      both_coded = record { six = simp (length-append, length-take, length-drop) (omega (arith, xc_long, yc_long)); blank = λ q i hq hi z. blank q i hq hi (dec_lt q 4) z }

-- ---- by kind
pub kind_one : {l l' : List ℤ} (kind : ℕ) → kind ≡ 1 → Transformed 16 l l' → Transformed (first_for kind) l l'
kind_one {l} {l'} kind e t = subst (λ n. Transformed (first_for n) l l') (sym e) t

pub kind_other : {l l' : List ℤ} (kind : ℕ) → kind ≢ 1 → Transformed 0 l l' → Transformed (first_for kind) l l'
kind_other zero n t = t
kind_other (suc zero) n t = absurd (n refl)
kind_other (suc (suc _)) n t = t

pub luma_other : (l : List ℤ) (kind : ℕ) → kind ≢ 1 → luma_in_range kind l ≡ luma_in_range 0 l
luma_other l zero n = refl
luma_other l (suc zero) n = absurd (n refl)
luma_other l (suc (suc _)) n = refl
