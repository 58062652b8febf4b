-- A square of a plane put row by row, each row through its own part of the plane, over the side n. Assumes nothing.
use mathlib.Core.Path.{◌≡◌, refl, sym, ap, ap₂, ◌∙◌}
use mathlib.Core.Bool.{Bool, true, false, ◌&&◌}
use mathlib.Core.List.{List}
use Prim.Native.Nat.{ℕ, ◌+◌, ◌*◌, ◌-◌, ◌/◌, ◌%◌, ◌<◌, ◌≤◌}
use native.Mathlib.Decide.{ℕ_discrete, dec_lt}
use native.Mathlib.Nat.{div-add-mod'}
use native.Mathlib.Omega.{arith}
use borrow.Author.Tests.{lt-ltb, le-ltb, le-leb, lt-leb, leb-true, ltb-true}
use borrow.Rule.Slice.PartMut.{put_mid, mid_of}
use lib.Arith.{digits_div, digits_mod}
use lib.Dec.{ltb, leb}
use lib.ListN.{length, get_or}
use Rattle.laws.specs.Patch.{patch}
use Rattle.laws.proofs.Patches.{length_patch, patch_here, patch_none, patch_grow, put_patch, front}
use Rattle.laws.proofs.Tests.{true_t, and_both, and_of, and_no, not_both, ltb_next}
use Rattle.residual.specs.Reconstruct.{in_square, put_square}

-- ---- the first r rows of a square of side n: at r = n it is `put_square`
abbrev in_rows : ℕ → ℕ → ℕ → ℕ → ℕ → Bool
in_rows n off s r i = leb off i && ltb ((i - off) / s) r && ltb ((i - off) % s) n

abbrev pub put_rows : ℕ → ℕ → ℕ → ℕ → (ℕ → ℕ → ℕ) → List ℕ → List ℕ
put_rows n off s r u l = patch (in_rows n off s r) (λ i. u ((i - off) % s) ((i - off) / s)) l

pub length_rows : (n off s r : ℕ) (u : ℕ → ℕ → ℕ) (l l' : List ℕ) → l' ≡ put_rows n off s r u l → length l' ≡ length l
length_rows n off s r u l l' e = ap length e ∙ length_patch (in_rows n off s r) (λ i. u ((i - off) % s) ((i - off) / s)) l

pub rows_none : (n off s : ℕ) (u : ℕ → ℕ → ℕ) (l : List ℕ) → l ≡ put_rows n off s 0 u l
rows_none n off s u l = patch_none (in_rows n off s 0) (λ i. u ((i - off) % s) ((i - off) / s)) l (λ i. none (leb off i) (ltb ((i - off) / s) 0) (ltb ((i - off) % s) n) (le-ltb ((i - off) / s) 0 (omega arith)))
  where
    none : (x y z : Bool) → y ≡ false → x && y && z ≡ false
    none x y z p = rw p (nothing x z)
      where
        nothing : (x z : Bool) → x && false && z ≡ false
        nothing true z = refl
        nothing false z = refl

module _ (n off s r : ℕ) (u : ℕ → ℕ → ℕ) (wide : n ≤ s) where
  abbrev start : ℕ
  start = off + r * s

  -- row r
  abbrev in_row : ℕ → Bool
  in_row i = leb start i && ltb (i - start) n

  hit : (i : ℕ) → in_row i ≡ true → (in_rows n off s (r + 1) i ≡ true) × (u (i - start) r ≡ u ((i - off) % s) ((i - off) / s))
  hit i e =
      let b = and_both (leb start i) (ltb (i - start) n) e in
      let p : start ≤ i = leb-true start i b.0 in
      let q : i - start < n = ltb-true (i - start) n b.1 in
      let w : i - off ≡ r * s + (i - start) = omega arith in
      let d : (i - off) / s ≡ r = ap (λ m. m / s) w ∙ digits_div r (omega arith) in
      let m : (i - off) % s ≡ i - start = ap (λ m. m % s) w ∙ digits_mod r (omega arith) in
      (and_of (and_of (le-leb off i (omega arith)) (lt-ltb ((i - off) / s) (r + 1) (omega arith))) (lt-ltb ((i - off) % s) n (omega arith)), ap₂ u (sym m) (sym d))

  miss : (i : ℕ) → in_row i ≡ false → in_rows n off s r i ≡ in_rows n off s (r + 1) i
  miss i e = go (dec_lt i off) (ℕ_discrete ((i - off) / s) r) (dec_lt ((i - off) % s) n)
    where
      go : Dec (i < off) → Dec ((i - off) / s ≡ r) → Dec ((i - off) % s < n) → in_rows n off s r i ≡ in_rows n off s (r + 1) i
      go (yes q) d k = rw (lt-leb off i q)
      go (no q) (no d) k = ap (λ b. leb off i && b && ltb ((i - off) % s) n) (ltb_next ((i - off) / s) r d)
      go (no q) (yes d) (no k) = let f = le-ltb ((i - off) % s) n (omega arith) in and_no (leb off i && ltb ((i - off) / s) r) _ f ∙ sym (and_no (leb off i && ltb ((i - off) / s) (r + 1)) _ f)
      go (no q) (yes d) (yes k) =
          let w : i - off ≡ r * s + (i - off) % s = sym (div-add-mod' (i - off) s) ∙ ap (λ m. m * s + (i - off) % s) d in
          absurd (not_both (and_of (le-leb start i (omega arith)) (lt-ltb (i - start) n (omega arith))) e)

  -- one more row, put through its own part of the plane
  pub rows_more : (l l' row : List ℕ) → off + r * s ≤ length l → l' ≡ put_rows n off s r u l
      → row ≡ front (λ x. u x r) n (mid_of (off + r * s) (length l' - (off + r * s)) l')
      → put_mid (off + r * s) (length l' - (off + r * s)) l' row ≡ put_rows n off s (r + 1) u l
  rows_more l l' row h e f =
      ap (put_mid start (length l' - start) l') f
      ∙ put_patch start (λ i. ltb i n) (λ x. u x r) l' (omega (arith, length_rows n off s r u l l' e))
      ∙ ap (patch in_row (λ i. u (i - start) r)) e
      ∙ patch_grow (in_rows n off s r) in_row (in_rows n off s (r + 1)) (λ i. u ((i - off) % s) ((i - off) / s)) (λ i. u (i - start) r) l hit miss

-- what stands in a square after it is put
pub square_at_lem : (n off s x y : ℕ) (u : ℕ → ℕ → ℕ) (l : List ℕ) → n ≤ s → x < n → y < n → off + y * s + x < length l
    → get_or (put_square n off s u l) (off + y * s + x) 0 ≡ u x y
square_at_lem n off s x y u l wide hx hy h =
    let i = off + y * s + x in
    let w : i - off ≡ y * s + x = omega arith in
    let d : (i - off) / s ≡ y = ap (λ m. m / s) w ∙ digits_div y (omega arith) in
    let m : (i - off) % s ≡ x = ap (λ m. m % s) w ∙ digits_mod y (omega arith) in
    patch_here (in_square n off s) (λ i. u ((i - off) % s) ((i - off) / s)) l i h
    (true_t (in_square n off s i) (and_of (and_of (le-leb off i (omega arith)) (lt-ltb ((i - off) / s) n (omega arith))) (lt-ltb ((i - off) % s) n (omega arith))))
    ∙ ap₂ u m d
