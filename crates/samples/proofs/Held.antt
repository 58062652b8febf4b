-- A number held to sixteen bits, and the sample that is clipped from it. Assumes nothing.
use mathlib.Core.Path.{◌≡◌, refl, ap, ◌∙◌}
use mathlib.Core.Bool.{Bool, true, false, cond}
use Prim.Native.Nat.{◌/◌}
use native.Mathlib.Omega.{arith}
use borrow.Author.Tests.{lt-ltb, le-ltb, ltb-true, ltb-false}
use lib.Dec.{ltb}
use lib.IntN.{ℤ, pos, negsuc}
use lib.Signed.{shr_z, mag_shr}
use mir.Facts.{sfits_lit}
use mir.Syntax.{w16, w32}
use mir.Val.{SFits, to_z, of_z}
use mir.ValLaws.{to_z-of_z}
use Rattle.laws.specs.Range.{Within, minus}
use Rattle.laws.proofs.Ints.{within_fits, within_more, short_within, back}
use Rattle.basics.specs.Clip.{Min, Max, Clip1}
use Rattle.basics.proofs.Clipped.{bounded_is}
use Rattle.samples.proofs.PlaneMode.{rd}

-- what is read back from sixteen bits
abbrev short : ℤ → ℤ
short z = to_z w16 (of_z w16 z)

-- v brought into sixteen bits, which it then fits
abbrev held : ℤ → ℤ
held v = Min (Max v (minus 32768)) (pos 32767)

held_short : (v : ℤ) → SFits w16 (held v)
held_short (pos n) = go (ltb 32767 n) refl
  where
    go : (t : Bool) → ltb 32767 n ≡ t → SFits w16 (cond t (pos 32767) (pos n))
    go true e = sfits_lit tt
    go false e = record { sfits = omega (arith, ltb-false 32767 n e) }
held_short (negsuc n) = go (ltb 32767 n) refl
  where
    go : (t : Bool) → ltb 32767 n ≡ t → SFits w16 (Min (cond t (minus 32768) (negsuc n)) (pos 32767))
    go true e = sfits_lit tt
    go false e = record { sfits = omega (arith, ltb-false 32767 n e) }

-- it is clipped to what the whole number is
held_clip : (v : ℤ) → Clip1 (shr_z (held v) 32) ≡ Clip1 (shr_z v 32)
unfolding Clip1
held_clip (pos n) = go (ltb 32767 n) refl
  where
    go : (t : Bool) → ltb 32767 n ≡ t → Clip1 (shr_z (cond t (pos 32767) (pos n)) 32) ≡ Clip1 (pos (n / 32))
    go true e = rw (le-ltb (n / 32) 0 (omega arith), lt-ltb 255 (n / 32) (omega (arith, ltb-true 32767 n e)))
    go false e = refl
held_clip (negsuc n) = go (ltb 32767 n)
  where
    go : (t : Bool) → Clip1 (shr_z (Min (cond t (minus 32768) (negsuc n)) (pos 32767)) 32) ≡ 0
    go true = refl
    go false = refl

module _ (v : ℤ) (f : SFits w32 v) where
  -- the machine holds that number
  pub hold_is : {m z : ℤ} → m ≡ Max (rd v) (minus 32768) → z ≡ Min (rd m) (pos 32767) → SFits w16 (rd z) × (short (rd z) ≡ held v)
  hold_is e g =
      let i = bounded_is v (minus 32768) (pos 32767) f (sfits_lit tt) (sfits_lit tt) e g in
      (rw i (held_short v), rw i (to_z-of_z w16 (held v) (held_short v)))

  -- and clips it, shifted
  pub sample_is : {h : ℤ} → h ≡ held (rd v)
      → let s = short (shr_z (short h) 32) in SFits w32 s × (Clip1 (rd s) ≡ Clip1 (shr_z v 32))
  sample_is {h} e =
      let n : h ≡ held v = e ∙ ap held (to_z-of_z w32 v f) in
      let i : short h ≡ held v = ap short n ∙ to_z-of_z w16 (held v) (held_short v) in
      let w : SFits w16 (shr_z (held v) 32) = record { sfits = omega (arith, mag_shr (held v) 32, (held_short v).sfits) } in
      let k : short (shr_z (short h) 32) ≡ shr_z (held v) 32 = rw i (to_z-of_z w16 (shr_z (held v) 32) w) in
      let l : Within 32768 (shr_z (held v) 32) = short_within w in
      (rw k (within_fits (within_more 32768 2147483647 _ l tt)), rw k (ap Clip1 (back 32768 l tt) ∙ held_clip v))
