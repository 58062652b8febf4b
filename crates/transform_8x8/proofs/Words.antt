-- The expressions of the steps as the machine computes them, for numbers within 1048576. It takes a number from 0 to negate it. Assumes nothing.
use mathlib.Core.Path.{◌≡◌, ap, ◌∙◌}
use lib.IntN.{ℤ, pos, neg_ℤ, ◌+ℤ◌, ◌-ℤ◌, +ℤ_idl}
use lib.Signed.{shr_z}
use Rattle.laws.specs.Range.{Within}
use Rattle.laws.proofs.Ints.{ints}
use Rattle.transform_8x8.proofs.Eights.{word}

module _ (a b : ℤ) (wa : Within 1048576 a) (wb : Within 1048576 b) where
  pub plus : word (word a +ℤ word b) ≡ a +ℤ b
  plus = search ints depth 20

  pub less : word (word a -ℤ word b) ≡ a -ℤ b
  less = search ints depth 20

  pub half_less : word (word (shr_z (word a) 2) -ℤ word b) ≡ shr_z a 2 -ℤ b
  half_less = search ints depth 20

  pub plus_half : word (word a +ℤ word (shr_z (word b) 2)) ≡ a +ℤ shr_z b 2
  plus_half = search ints depth 20

  pub quarter_less : word (word (shr_z (word a) 4) -ℤ word b) ≡ shr_z a 4 -ℤ b
  quarter_less = search ints depth 20

  pub plus_quarter : word (word a +ℤ word (shr_z (word b) 4)) ≡ a +ℤ shr_z b 4
  plus_quarter = search ints depth 20

  pub less_quarter : word (word a -ℤ word (shr_z (word b) 4)) ≡ a -ℤ shr_z b 4
  less_quarter = search ints depth 20

  -- e1, e3, e5 and e7
  module _ (c : ℤ) (wc : Within 1048576 c) where
    pub one : word (word (word (word (pos 0 -ℤ word a) +ℤ word b) -ℤ word c) -ℤ word (shr_z (word c) 2)) ≡ neg_ℤ a +ℤ b -ℤ c -ℤ shr_z c 2
    one = ◌∙◌ {b = pos 0 -ℤ a +ℤ b -ℤ c -ℤ shr_z c 2} (search ints depth 20) (ap (λ z. z +ℤ b -ℤ c -ℤ shr_z c 2) (+ℤ_idl (neg_ℤ a)))

    pub three : word (word (word (word a +ℤ word b) -ℤ word c) -ℤ word (shr_z (word c) 2)) ≡ a +ℤ b -ℤ c -ℤ shr_z c 2
    three = search ints depth 20

    pub five : word (word (word (word (pos 0 -ℤ word a) +ℤ word b) +ℤ word c) +ℤ word (shr_z (word c) 2)) ≡ neg_ℤ a +ℤ b +ℤ c +ℤ shr_z c 2
    five = ◌∙◌ {b = pos 0 -ℤ a +ℤ b +ℤ c +ℤ shr_z c 2} (search ints depth 20) (ap (λ z. z +ℤ b +ℤ c +ℤ shr_z c 2) (+ℤ_idl (neg_ℤ a)))

    pub seven : word (word (word (word a +ℤ word b) +ℤ word c) +ℤ word (shr_z (word c) 2)) ≡ a +ℤ b +ℤ c +ℤ shr_z c 2
    seven = search ints depth 20
