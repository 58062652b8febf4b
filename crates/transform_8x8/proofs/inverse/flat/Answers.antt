-- `transform_8x8::inverse::flat` meets its contract: the first 64 places are filled with the rounded coefficient. Assumes nothing.
use mathlib.Core.Path.{◌≡◌, sym, ap, ap₂, ◌∙◌}
use mathlib.Core.Bool.{true}
use mathlib.Core.List.{List, ◌++◌}
use Prim.Native.Nat.{min}
use native.Mathlib.Omega.{arith}
use lib.IntN.{ℤ, pos}
use lib.ListN.{length, drop, replicate, length-take}
use lib.Signed.{le_z}
use mir.Facts.{to_z-of_z}
use mir.Syntax.{w16}
use borrow.Author.Rules.{rules}
use Rattle.laws.specs.Range.{Within, at}
use Rattle.laws.proofs.Ints.{within_back, within_more, back}
use Rattle.numbers.specs.Numbers.{all_in_range}
use Rattle.numbers.proofs.InRange.{in_range_within, all_at}
use Rattle.residual.specs.Inverse.{rounded}
use Rattle.transform_8x8.proofs.Firsts.{first_inverse, first_range}
use Rattle.transform_8x8.proofs.inverse.flat.Goals as goal

-- the first number is in range
first : (d : List ℤ) → all_in_range d ≡ true → Within 32768 (at d 0)
first d e = in_range_within (at d 0) (all_at d 0 e)

pub round-requires : goal.round-requires
round-requires c = within_back 1782272 _ tt (within_more 32768 1782272 _ (first c.args.quad.numbers.now c.args.quad.good) tt)

pub returns : goal.returns
returns c = let d = c.args.quad.numbers.now in
    let o = c.args.out.now in
    let v = back 32768 {z = at d 0} (first d c.args.quad.good) tt in
    let n : min 64 (length o) ≡ 64 = omega (arith, c.requires.0) in record {
      value = ap (λ z. le_z z (pos 32735)) v ∙ sym (first_range d c.requires.1 c.args.quad.good);
      out_after = ap (λ t. t ++ drop 64 o)
          (c.fill.ensures.after (λ y e. e) ∙ ap₂ replicate (length-take 64 o ∙ n) (to_z-of_z {w = w16} {z = c.round.result} (search rules) ∙ c.round.ensures ∙ ap rounded v)
          ∙ sym (first_inverse d c.requires.1));
    }
