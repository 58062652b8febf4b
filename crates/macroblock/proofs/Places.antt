-- Places of a plane by blocks: what lies in a block, and that a square put by its offset is a block put by its coordinates. Assumes nothing.
use mathlib.Core.Path.{◌≡◌, sym, ap, ap₂, ◌∙◌}
use mathlib.Core.Bool.{◌&&◌}
use mathlib.Core.List.{List}
use Prim.Native.Nat.{ℕ, ◌+◌, ◌*◌, ◌-◌, ◌/◌, ◌%◌, ◌<◌, ◌≤◌}
use native.Mathlib.Nat.{div-add-mod', mod-lt, add-mul}
use native.Mathlib.Omega.{arith}
use lib.Arith.{digits_div, digits_mod}
use lib.Dec.{T, eqb, ltb, leb, eqb→eq, eqb_refl, ltb→lt, lt→ltb, leb→le, le→leb}
use Rattle.laws.proofs.Digits.{Placed, placed}
use Rattle.laws.proofs.Patches.{patch_same}
use Rattle.laws.proofs.Tests.{both_left, both_right, both_of, same_test}
use Rattle.residual.specs.Reconstruct.{in_square, put_square}
use Rattle.macroblock.specs.declared.place.Place.{Place}
use Rattle.macroblock.specs.Square.{in_block, put_block}

module _ (q s Y Z i : ℕ) where
  pub block_of_lem : i / s / q ≡ Y → i % s / q ≡ Z → T (in_block q s Y Z i)
  block_of_lem a b = both_of (eqb (i / s / q) Y) (eqb (i % s / q) Z) (rw a (eqb_refl Y)) (rw b (eqb_refl Z))

  module _ (t : T (in_block q s Y Z i)) where
    pub block_row : i / s / q ≡ Y
    block_row = eqb→eq (i / s / q) Y (both_left (eqb (i / s / q) Y) (eqb (i % s / q) Z) t)

    pub block_column : i % s / q ≡ Z
    block_column = eqb→eq (i % s / q) Z (both_right (eqb (i / s / q) Y) (eqb (i % s / q) Z) t)

    -- a place of a block, by its row and column there
    pub place_is : i ≡ (Y * q + i / s % q) * s + (Z * q + i % s % q)
    place_is =
        sym (div-add-mod' i s)
        ∙ ap₂ (λ y x. y * s + x) (sym (div-add-mod' (i / s) q) ∙ ap (λ y. y * q + i / s % q) block_row)
        (sym (div-add-mod' (i % s) q) ∙ ap (λ x. x * q + i % s % q) block_column)

-- the same of the block at p
abbrev pub At : ℕ → Place → ℕ → Type 0
At q p i = T (in_block q p.stride p.row p.column i)

pub at_of : (q : ℕ) (p : Place) (i : ℕ) → i / p.stride / q ≡ p.row → i % p.stride / q ≡ p.column → At q p i
at_of q p i = block_of_lem q p.stride p.row p.column i

pub at_row : (q : ℕ) (p : Place) (i : ℕ) → At q p i → i / p.stride / q ≡ p.row
at_row q p i = block_row q p.stride p.row p.column i

pub at_column : (q : ℕ) (p : Place) (i : ℕ) → At q p i → i % p.stride / q ≡ p.column
at_column q p i = block_column q p.stride p.row p.column i

-- ---- the square of side q from `off` on is the block at p
module _ (q off : ℕ) (p : Place) (some : 0 < q) (wide : p.column * q + q ≤ p.stride) (e : off ≡ p.row * q * p.stride + p.column * q) where
  abbrev s : ℕ
  s = p.stride

  square_place : (i : ℕ) → T (in_square q off s i) → Placed q s p.row p.column ((i - off) / s) ((i - off) % s) i
  square_place i t =
      let b₁ = leb off i in let b₂ = ltb ((i - off) / s) q in let b₃ = ltb ((i - off) % s) q in
      let low : off ≤ i = leb→le off i (both_left b₁ b₂ (both_left (b₁ && b₂) b₃ t)) in
      let r : (i - off) / s < q = ltb→lt _ q (both_right b₁ b₂ (both_left (b₁ && b₂) b₃ t)) in
      let c : (i - off) % s < q = ltb→lt _ q (both_right (b₁ && b₂) b₃ t) in
      placed q s p.row p.column ((i - off) / s) ((i - off) % s) i r c wide (omega (arith, div-add-mod' (i - off) s, add-mul (p.row * q) ((i - off) / s) s, e))

  block_place : (i : ℕ) → At q p i → T (in_square q off s i)
  block_place i t =
      let r : i / s % q < q = mod-lt (i / s) some in
      let c : i % s % q < q = mod-lt (i % s) some in
      let at : i ≡ off + (i / s % q * s + i % s % q) = place_is q s p.row p.column i t ∙ omega (arith, add-mul (p.row * q) (i / s % q) s, e) in
      let d : i - off ≡ i / s % q * s + i % s % q = omega arith in
      let row : (i - off) / s ≡ i / s % q = ap (λ n. n / s) d ∙ digits_div (i / s % q) (omega arith) in
      let column : (i - off) % s ≡ i % s % q = ap (λ n. n % s) d ∙ digits_mod (i / s % q) (omega arith) in
      both_of (leb off i && ltb ((i - off) / s) q) (ltb ((i - off) % s) q)
      (both_of (leb off i) (ltb ((i - off) / s) q) (le→leb off i (omega arith)) (lt→ltb _ q (omega (arith, row)))) (lt→ltb _ q (omega (arith, column)))

  square_is_block : (i : ℕ) → in_square q off s i ≡ in_block q s p.row p.column i
  square_is_block i = same_test (in_square q off s i) (in_block q s p.row p.column i) (λ t. let w = square_place i t in at_of q p i w.Y_is w.Z_is) (block_place i)

  pub put_is_put : (u : ℕ → ℕ → ℕ) (l : List ℕ) → put_square q off s u l ≡ put_block q p u l
  put_is_put u l =
      patch_same (in_square q off s) (in_block q s p.row p.column) _ _ l square_is_block
      (λ i t. let w = square_place i t in ap₂ u (sym w.c_is) (sym w.r_is))
