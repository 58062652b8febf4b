-- Plane prediction: its slopes over a line, and its samples. Assumes nothing.
use mathlib.Core.Path.{◌≡◌, ap, ap₂, ◌∙◌}
use mathlib.Core.List.{List}
use Prim.Native.Nat.{ℕ, zero, suc, ◌+◌, ◌-◌, ◌*◌, ◌≤◌, ◌<◌}
use native.Mathlib.Omega.{arith}
use lib.IntN.{ℤ, pos, nat_abs, ◌+ℤ◌, ◌-ℤ◌, ◌*ℤ◌}
use borrow.Author.Tests.{ne_eqb}
use lib.ListN.{get_or, replicate}
use mir.Syntax.{w32}
use mir.Val.{to_z, of_z}
use mir.ValLaws.{to_z_pos}
use Rattle.laws.specs.Range.{Within}
use Rattle.laws.specs.Table.{sum_z, onto}
use Rattle.laws.proofs.Ints.{abs_add, back}
use Rattle.laws.proofs.Ontos.{onto_at}
use Rattle.laws.proofs.Sums.{sum_z_same, sum_z_more}
use Rattle.basics.specs.Near.{Near}
use Rattle.samples.specs.PlaneMode.{slope, gradient, ramp, plane}
use Rattle.samples.specs.declared.line.Around.{Around}
use Rattle.samples.specs.inner.Line.{sample, line, Stands}
use Rattle.samples.specs.inner.Plane.{Sloped}

-- what is read back from the bits of a number
abbrev pub rd : ℤ → ℤ
rd z = to_z w32 (of_z w32 z)

-- one term of a slope
abbrev pub term_of : ℕ → (ℕ → ℕ) → ℕ → ℤ
term_of m s i = pos (i + 1) *ℤ (pos (s (m + 1 + i)) -ℤ pos (s (m - 1 - i)))

-- the code's weight is a signed number
pub term_is : (m : ℕ) (s : ℕ → ℕ) (i : ℕ) (r : ℤ) → i < 8 → r ≡ to_z w32 (i + 1) *ℤ (pos (s (m + 1 + i)) -ℤ pos (s (m - 1 - i))) → r ≡ term_of m s i
term_is m s i r h e = e ∙ rw (to_z_pos w32 (i + 1) (omega arith))

-- the whole sum is the slope
pub slope_is : (m : ℕ) (s : ℕ → ℕ) (h : ℤ) → m ≤ 8 → h ≡ sum_z m (term_of m s) → nat_abs (sum_z m (term_of m s)) ≤ 4080 * m
    → (h ≡ slope m s) × Within 32640 h
unfolding slope
slope_is m s h small e b = (e, rw e (record { within = omega arith }))

-- one more term, as the machine adds it
pub slope_more : (m : ℕ) (s : ℕ → ℕ) (i : ℕ) (h t : ℤ) → i < 8 → h ≡ sum_z i (term_of m s) → nat_abs (sum_z i (term_of m s)) ≤ 4080 * i
    → (t ≡ to_z w32 (i + 1) *ℤ (pos (s (m + 1 + i)) -ℤ pos (s (m - 1 - i)))) × Within 4080 t
    → (rd (h +ℤ rd t) ≡ sum_z (i + 1) (term_of m s)) × (nat_abs (sum_z (i + 1) (term_of m s)) ≤ 4080 * (i + 1))
slope_more m s i h t l e b (te, w) =
    let n : sum_z i (term_of m s) +ℤ t ≡ sum_z (i + 1) (term_of m s) = sum_z_more i (term_of m s) t (term_is m s i t l te) in
    let v : Within 36720 (sum_z (i + 1) (term_of m s)) = rw (← n) (record { within = omega (arith, abs_add (sum_z i (term_of m s)) t, w.within) }) in (
      ap rd (ap (λ (z : ℤ). h +ℤ z) (back 4080 w tt) ∙ ap (λ (z : ℤ). z +ℤ t) e ∙ n) ∙ back 36720 v tt,
      rw (← n) (omega (arith, abs_add (sum_z i (term_of m s)) t, w.within)),
    )

-- a slope reads its 2m + 1 samples, and a plane those of its two lines
slope_same : (m : ℕ) (s t : ℕ → ℕ) → 1 ≤ m → ((i : ℕ) → i ≤ 2 * m → s i ≡ t i) → slope m s ≡ slope m t
unfolding slope
slope_same m s t one h =
    sum_z_same m _ _ (λ i b. ap₂ (λ (u v : ℕ). pos (i + 1) *ℤ (pos u -ℤ pos v)) (h (m + 1 + i) (omega arith)) (h (m - 1 - i) (omega arith)))

pub plane_same : (m k : ℕ) (p q : Near) → 1 ≤ m → ((i : ℕ) → i ≤ 2 * m → p i 0 ≡ q i 0) → ((j : ℕ) → j ≤ 2 * m → p 0 j ≡ q 0 j) → plane m k p ≡ plane m k q
unfolding plane
plane_same m k p q one above left =
    rw (left (2 * m) (omega arith), above (2 * m) (omega arith), slope_same m (λ i. p i 0) (λ i. q i 0) one above, slope_same m (p 0) (q 0) one left)

-- a, b and c as the machine computes them, from the two lines, are the neighbourhood's
module _ (m k corner : ℕ) (one : 1 ≤ m) where
  abbrev pub Read : (ℕ → ℕ) → List ℕ → Type 0
  Read side e = e ≡ onto (2 * m + 1) (line corner side) (replicate 17 0)

  -- a line that is read holds the samples of one side, from the corner on
  held : (side p : ℕ → ℕ) (e : List ℕ) → corner ≡ p 0 → ((i : ℕ) → i < 2 * m → side i ≡ p (i + 1)) → Read side e → (i : ℕ) → i ≤ 2 * m → get_or e i 0 ≡ p i
  held side p e first same r i l = onto_at (2 * m + 1) _ _ e 0 i r (omega arith) ∙ go i l
    where
      go : (i : ℕ) → i ≤ 2 * m → line corner side i ≡ p i
      go zero l = first
      go (suc i) l = let z : suc i - 1 ≡ i = omega arith in rw (ne_eqb (suc i) 0 (omega arith), z) (same i (omega arith) ∙ ap p (omega arith))

  sloping : (s : ℕ → ℕ) (e : List ℕ) {h b : ℤ} → ((i : ℕ) → i ≤ 2 * m → get_or e i 0 ≡ s i) → (h ≡ slope m (λ i. get_or e i 0)) × Within 32640 h
      → (b ≡ gradient k (rd h)) × Within 2219552 b → rd b ≡ gradient k (slope m s)
  sloping s e {h} {b} r (hs, hw) (bs, bw) = back 2219552 bw tt ∙ bs ∙ ap (gradient k) (back 32640 hw tt ∙ hs ∙ slope_same m _ _ one r)

  pub sloped : (a : Around) (p : Near) (e f : List ℕ) {v h w b c : ℤ} → corner ≡ p 0 0 → Stands (2 * m) a p → Read (sample a.above) e → Read (sample a.left) f
      → (x y : ℕ) → x ≡ sample a.left (2 * m - 1) → y ≡ sample a.above (2 * m - 1) → (v ≡ pos 16 *ℤ (pos x +ℤ pos y)) × Within 8160 v
      → (h ≡ slope m (λ i. get_or e i 0)) × Within 32640 h → (b ≡ gradient k (rd h)) × Within 2219552 b
      → (w ≡ slope m (λ i. get_or f i 0)) × Within 32640 w → (c ≡ gradient k (rd w)) × Within 2219552 c
      → Sloped m k p (rd v) (rd b) (rd c)
  sloped a p e f first near re rf x y ex ey (ve, vw) h b w c =
      let last : 2 * m - 1 + 1 ≡ 2 * m = omega arith in
      let l : sample a.left (2 * m - 1) ≡ p 0 (2 * m) = near.left_is (2 * m - 1) (omega arith) ∙ ap (λ (i : ℕ). p 0 i) last in
      let t : sample a.above (2 * m - 1) ≡ p (2 * m) 0 = near.above_is (2 * m - 1) (omega arith) ∙ ap (λ (i : ℕ). p i 0) last in
      record {
        a_is = back 8160 vw tt ∙ ve ∙ ap₂ (λ (x y : ℕ). pos 16 *ℤ (pos x +ℤ pos y)) (ex ∙ l) (ey ∙ t);
        b_is = sloping (λ i. p i 0) e (held (sample a.above) (λ i. p i 0) e first near.above_is re) h b;
        c_is = sloping (p 0) f (held (sample a.left) (p 0) f first near.left_is rf) w c;
      }

-- the samples of a, b and c are the plane's
pub plane_is : (m k : ℕ) (p : Near) {a b c : ℤ} → Sloped m k p a b c → (x y : ℕ) → ramp (m - 1) a b c x y ≡ plane m k p x y
unfolding plane
plane_is m k p s x y = rw (s.a_is, s.b_is, s.c_is)
