-- The transform of 4x4 blocks meets its contract: the easy forms are what it gives. Assumes nothing.
use mathlib.Core.Path.{◌≡◌, sym, ap, ◌∙◌}
use mathlib.Core.List.{◌++◌}
use Prim.Native.Nat.{min, ◌≤◌}
use native.Mathlib.Omega.{arith}
use lib.IntN.{pos}
use lib.ListN.{length, drop, replicate, length-take}
use Rattle.residual.specs.inner.Quads.{quad_inverse, quad_in_range}
use Rattle.residual.proofs.InQuads.{told_in, put_in}
use Rattle.residual.proofs.Quads.{first_uncoded, zero_inverse, zero_range}
use Rattle.residual.proofs.inverse.Blocks4x4Transform.invert_quad.Goals as goal

pub returns-then-quad-eq0 : goal.returns-then-quad-eq0
unfolding quad_inverse quad_in_range
returns-then-quad-eq0 c = let d = c.args.quad.numbers.now in
    let o = c.args.out.now in
    let h : 64 ≤ length o = omega (arith, c.if-out-lt64.false) in
    let z = first_uncoded d (sym c.args.quad.marked ∙ c.if-quad-eq0.true) in
    let n : min 64 (length o) ≡ 64 = omega (arith, h) in
    record {
      value = sym (zero_range d z c.args.quad.good) ∙ sym (told_in (length o) _ h);
      out_after = ap (λ t. t ++ drop 64 o) (c.fill.ensures.after (λ y e. e) ∙ ap (λ k. replicate k (pos 0)) (length-take 64 o ∙ n) ∙ sym (zero_inverse d z))
          ∙ sym (put_in (length o) _ o h);
    }

pub returns-then-only_firsts : goal.returns-then-only_firsts
unfolding quad_inverse quad_in_range
returns-then-only_firsts c = let o = c.args.out.now in
    let h : 64 ≤ length o = omega (arith, c.if-out-lt64.false) in
    record { value = c.flatten.ensures.value ∙ sym (told_in (length o) _ h); out_after = c.flatten.ensures.out_after ∙ sym (put_in (length o) _ o h) }

pub returns : goal.returns
unfolding quad_inverse quad_in_range
returns c = let o = c.args.out.now in
    let h : 64 ≤ length o = omega (arith, c.if-out-lt64.false) in
    record { value = c.invert_four.ensures.value ∙ sym (told_in (length o) _ h); out_after = c.invert_four.ensures.out_after ∙ sym (put_in (length o) _ o h) }
