-- The ramp of a plane prediction by steps: the numbers that its samples are clipped from, as sums that the machine adds to. Assumes nothing.
use mathlib.Core.Path.{◌≡◌, sym, ap, ◌∙◌, subst}
use Prim.Native.Nat.{ℕ, ◌+◌, ◌≤◌, ◌<◌}
use native.Mathlib.Nat.{le_refl}
use native.Mathlib.Numerals.{add-one}
use native.Mathlib.Omega.{arith}
use lib.Dec.{T, leb}
use lib.IntN.{ℤ, pos, neg_ℤ, suc_ℤ, ◌+ℤ◌, ◌-ℤ◌, ◌*ℤ◌, +ℤ_assoc, +ℤ_comm, suc_ℤ-+ℤ, suc_ℤ-*ℤ, *ℤ_comm}
use lib.Signed.{shr_z}
use mir.Syntax.{w32}
use mir.Val.{SFits}
use mir.ValLaws.{to_z-of_z}
use Rattle.laws.specs.Range.{Within}
use Rattle.laws.proofs.Ints.{ints, abs_add, add_is, within_fits, within_more, within_mul, within_neg, within_back, back}
use Rattle.basics.specs.Clip.{Clip1}
use Rattle.samples.specs.PlaneMode.{ramp}
use Rattle.samples.proofs.PlaneMode.{rd}

-- ---- steps of whole numbers
swap : (p q r : ℤ) → p +ℤ q +ℤ r ≡ p +ℤ r +ℤ q
swap p q r = +ℤ_assoc p q r ∙ ap (λ (z : ℤ). p +ℤ z) (+ℤ_comm q r) ∙ sym (+ℤ_assoc p r q)

-- a slope s times the distance from o: one place further it is s more
further : (s : ℤ) (x o : ℕ) → s *ℤ (pos x -ℤ pos o) +ℤ s ≡ s *ℤ (pos (x + 1) -ℤ pos o)
further s x o =
    let d : ℤ = pos x -ℤ pos o in
    let e : suc_ℤ d ≡ pos (x + 1) -ℤ pos o = sym (suc_ℤ-+ℤ (pos x) (neg_ℤ (pos o))) ∙ ap (λ (n : ℕ). pos n -ℤ pos o) (sym (add-one x)) in
    ap (λ (z : ℤ). z +ℤ s) (*ℤ_comm s d) ∙ sym (suc_ℤ-*ℤ d s) ∙ *ℤ_comm (suc_ℤ d) s ∙ ap (λ (z : ℤ). s *ℤ z) e

-- at the first place, as the machine computes it
first_is : (s r : ℤ) (o : ℕ) → Within 2219552 s → (r ≡ pos 0 -ℤ pos o) × Within 30 r → rd (s *ℤ rd r) ≡ s *ℤ (pos 0 -ℤ pos o)
first_is s r o h (e, w) = whole ∙ ap (λ (z : ℤ). s *ℤ z) e
  where
    whole : rd (s *ℤ rd r) ≡ s *ℤ r
    whole = search ints depth 20

-- what `ramp_over` asks of its numbers
pub record Small (o : ℕ) (a b c : ℤ) : Type 0 where
  pub a_small : Within 8160 a
  pub b_small : Within 2219552 b
  pub c_small : Within 2219552 c
  pub o_small : o < 16

pub small_back : (o : ℕ) {a b c : ℤ} → Within 8160 a → Within 2219552 b → Within 2219552 c → o < 16 → Small o (rd a) (rd b) (rd c)
small_back o h g f l = record { a_small = within_back 8160 _ tt h; b_small = within_back 2219552 _ tt g; c_small = within_back 2219552 _ tt f; o_small = l }

-- a small number, as the machine computes it
machine : (k : ℕ) (u z : ℤ) → u ≡ z → Within k z → T (leb k 2147483647) → SFits w32 u × (rd u ≡ z)
machine k u z e h t = (rw e (within_fits (within_more k 2147483647 z h t)), ap rd e ∙ back k h t)

module _ (o : ℕ) (a b c : ℤ) where
  -- the column's part of the number that is clipped
  abbrev pub rise : ℕ → ℤ
  rise x = a +ℤ b *ℤ (pos x -ℤ pos o)

  -- what the first row adds to it
  abbrev pub lift : ℤ
  lift = c *ℤ (pos 0 -ℤ pos o) +ℤ pos 16

  -- the number, in column x and row y
  abbrev pub height : ℕ → ℕ → ℤ
  height x y = rise x +ℤ c *ℤ (pos y -ℤ pos o) +ℤ pos 16

  step_right : (x : ℕ) → rise x +ℤ b ≡ rise (x + 1)
  step_right x = +ℤ_assoc a (b *ℤ (pos x -ℤ pos o)) b ∙ ap (λ (z : ℤ). a +ℤ z) (further b x o)

  step_down : (x y : ℕ) → height x y +ℤ c ≡ height x (y + 1)
  step_down x y =
      let d : ℤ = c *ℤ (pos y -ℤ pos o) in
      swap (rise x +ℤ d) (pos 16) c ∙ ap (λ (z : ℤ). z +ℤ pos 16) (+ℤ_assoc (rise x) d c ∙ ap (λ (z : ℤ). rise x +ℤ z) (further c y o))

  -- The sums as the machine holds them. None leaves 32 bits, the one past the last of a row or of a column included.
  module _ (w : Small o a b c) where
    far : (s : ℤ) (x : ℕ) → Within 2219552 s → x ≤ 16 → Within 68806112 (s *ℤ (pos x -ℤ pos o))
    far s x h l =
        let d : Within 31 (pos x -ℤ pos o) =
        record { within = omega (arith, abs_add (pos x) (neg_ℤ (pos o)), (within_neg o (pos o) (record { within = le_refl o })).within, w.o_small) } in
        within_mul 2219552 68806112 s (pos x -ℤ pos o) h d

    rise_small : (x : ℕ) → x ≤ 16 → Within 68814272 (rise x)
    rise_small x l = record { within = omega (arith, abs_add a (b *ℤ (pos x -ℤ pos o)), w.a_small.within, (far b x w.b_small l).within) }

    lift_small : Within 68806128 lift
    lift_small = record { within = omega (arith, abs_add (c *ℤ (pos 0 -ℤ pos o)) (pos 16), (far c 0 w.c_small (omega arith)).within) }

    height_small : (x y : ℕ) → x ≤ 16 → y ≤ 16 → Within 137620400 (height x y)
    height_small x y l m =
        let d : ℤ = c *ℤ (pos y -ℤ pos o) in
        record { within = omega (arith, abs_add (rise x +ℤ d) (pos 16), abs_add (rise x) d, (rise_small x l).within, (far c y w.c_small m).within) }

    -- the first column and what its first row adds, as the machine computes them
    pub first_rise : (r : ℤ) → (r ≡ pos 0 -ℤ pos o) × Within 30 r → rd (a +ℤ rd (b *ℤ rd r)) ≡ rise 0
    first_rise r h = ap (λ (z : ℤ). rd (a +ℤ z)) (first_is b r o w.b_small h) ∙ back 68814272 (rise_small 0 (omega arith)) tt

    pub first_lift : (r : ℤ) → (r ≡ pos 0 -ℤ pos o) × Within 30 r → rd (rd (c *ℤ rd r) +ℤ pos 16) ≡ lift
    first_lift r h = ap (λ (z : ℤ). rd (z +ℤ pos 16)) (first_is c r o w.c_small h) ∙ back 68806128 lift_small tt

    -- `at = rise + lift`, `rise += b` and `at += c`: what each asks, and what it leaves
    pub at_first : (x : ℕ) (u v : ℤ) → x ≤ 16 → u ≡ rise x → v ≡ lift → SFits w32 (u +ℤ v) × (rd (u +ℤ v) ≡ height x 0)
    at_first x u v l e g =
        let i : u +ℤ v ≡ height x 0 = add_is u v (rise x) lift e g ∙ sym (+ℤ_assoc (rise x) (c *ℤ (pos 0 -ℤ pos o)) (pos 16)) in
        machine 137620400 (u +ℤ v) (height x 0) i (height_small x 0 l (omega arith)) tt

    pub rise_next : (x : ℕ) (u : ℤ) → x ≤ 16 → u ≡ rise x → SFits w32 (u +ℤ b) × (rd (u +ℤ b) ≡ rise (x + 1))
    rise_next x u l e =
        let h : Within 71033824 (rise x +ℤ b) = record { within = omega (arith, abs_add (rise x) b, (rise_small x l).within, w.b_small.within) } in
        machine 71033824 (u +ℤ b) (rise (x + 1)) (ap (λ (z : ℤ). z +ℤ b) e ∙ step_right x) (subst (Within 71033824) (step_right x) h) tt

    pub at_next : (x y : ℕ) (u : ℤ) → x ≤ 16 → y ≤ 16 → u ≡ height x y → SFits w32 (u +ℤ c) × (rd (u +ℤ c) ≡ height x (y + 1))
    at_next x y u l m e =
        let h : Within 139839952 (height x y +ℤ c) = record { within = omega (arith, abs_add (height x y) c, (height_small x y l m).within, w.c_small.within) } in
        machine 139839952 (u +ℤ c) (height x (y + 1)) (ap (λ (z : ℤ). z +ℤ c) e ∙ step_down x y) (subst (Within 139839952) (step_down x y) h) tt

  -- and the sample that is clipped from it
  pub clipped_is : (x y : ℕ) (u : ℤ) → u ≡ height x y → Clip1 (shr_z u 32) ≡ ramp o a b c x y
  unfolding ramp
  clipped_is x y u e = ap (λ (z : ℤ). Clip1 (shr_z z 32)) e

-- signed arguments, read back from their bits
pub ramp_back : (o : ℕ) {a b c : ℤ} (x y : ℕ) → SFits w32 a → SFits w32 b → SFits w32 c → ramp o (rd a) (rd b) (rd c) x y ≡ ramp o a b c x y
ramp_back o {a} {b} {c} x y fa fb fc = rw (to_z-of_z w32 a fa, to_z-of_z w32 b fb, to_z-of_z w32 c fc)
