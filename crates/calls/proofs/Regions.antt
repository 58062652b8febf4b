-- The regions of a picture's macroblocks: apart, told by a test, and where an available neighbour's lies. Assumes nothing.
use mathlib.Core.Path.{◌≡◌, sym, ap₂, ◌∙◌}
use Prim.Native.Nat.{ℕ, ◌+◌, ◌*◌, ◌/◌, ◌%◌, ◌<◌}
use native.Mathlib.Decide.{dec_lt}
use native.Mathlib.Nat.{div-add-mod', mod-lt}
use lib.Arith.{digits_div, digits_mod, digits_lt}
use lib.Dec.{T}
use Rattle.maps.specs.Size.{address}
use Rattle.maps.proofs.Sizes.{place_of}
use Rattle.macroblock.specs.Square.{in_block}
use Rattle.macroblock.proofs.Places.{block_of_lem, block_row, block_column}

module _ (k s w : ℕ) where
  -- no index is in two macroblocks
  pub apart : (a b i : ℕ) → T (in_block k s (a / w) (a % w) i) → T (in_block k s (b / w) (b % w) i) → a ≡ b
  apart a b i t u =
      sym (div-add-mod' a w)
      ∙ ap₂ (λ y x. y * w + x) (sym (block_row k s (a / w) (a % w) i t) ∙ block_row k s (b / w) (b % w) i u)
      (sym (block_column k s (a / w) (a % w) i t) ∙ block_column k s (b / w) (b % w) i u)
      ∙ div-add-mod' b w

  -- whether an index lies in some macroblock
  pub tell : (h : ℕ) → 0 < w → (i : ℕ) → Dec ((a : ℕ) × (a < h * w) × T (in_block k s (a / w) (a % w) i))
  tell h hw i = go (dec_lt (i / s / k) h) (dec_lt (i % s / k) w)
    where
      go : Dec (i / s / k < h) → Dec (i % s / k < w) → Dec ((a : ℕ) × (a < h * w) × T (in_block k s (a / w) (a % w) i))
      go (yes y) (yes x) =
          let a = i / s / k * w + i % s / k in
          yes (a, digits_lt y x, block_of_lem k s (a / w) (a % w) i (sym (digits_div (i / s / k) x)) (sym (digits_mod (i / s / k) x)))
      go (no y) x = no (λ (a, h, t). y (rw (block_row k s (a / w) (a % w) i t) (place_of w _ a hw h).in_h))
      go (yes y) (no x) = no (λ (a, h, t). x (rw (block_column k s (a / w) (a % w) i t) (mod-lt a hw)))

  -- the macroblock in column x and row y is that of its address
  pub at_address : (x y i : ℕ) → x < w → T (in_block k s y x i) → T (in_block k s (address w x y / w) (address w x y % w) i)
  at_address x y i h t = rw (digits_div y h, digits_mod y h) t
