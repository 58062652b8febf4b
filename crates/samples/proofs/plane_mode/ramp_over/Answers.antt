-- `samples::plane_mode::ramp_over` meets its contract. The columns left of x, and of column x the samples above y, are put; the sums are the
-- heights of the next samples, and none leaves 32 bits. Assumes nothing.
use mathlib.Core.Path.{◌≡◌, sym, ap, ap₂, ◌∙◌}
use Prim.Native.Nat.{◌+◌, ◌*◌, ◌/◌, ◌%◌, ◌<◌}
use native.Mathlib.Nat.{zero-mul, suc-mul}
use native.Mathlib.Numerals.{add-one}
use native.Mathlib.Omega.{arith}
use lib.Arith.{digits_div, digits_mod}
use mir.Syntax.{w32}
use mir.Val.{SFits}
use Rattle.std.proofs.Common.{rules}
use Rattle.laws.proofs.Columns.{columns, columns_none, columns_more, columns_all}
use Rattle.laws.proofs.Digits.{row_in}
use Rattle.laws.proofs.Ints.{ints}
use Rattle.laws.proofs.Ontos.{onto_same}
use Rattle.samples.specs.PlaneMode.{ramp}
use Rattle.samples.proofs.Ramp.{first_rise, first_lift, at_first, rise_next, at_next, clipped_is, ramp_back, small_back}
use Rattle.samples.proofs.plane_mode.ramp_over.Goals as goal

pub overflow_mul-rise : goal.overflow_mul-rise
overflow_mul-rise c = search ints depth 20

pub overflow_add-rise : goal.overflow_add-rise
overflow_add-rise c = search ints depth 20

pub overflow_mul-lift : goal.overflow_mul-lift
overflow_mul-lift c = search ints depth 20

pub overflow_add-lift : goal.overflow_add-lift
overflow_add-lift c = search ints depth 20

pub loop-x-init : goal.loop-x-init
loop-x-init c =
    let w = small_back c.args.o c.requires.0 c.requires.1 c.requires.2 c.requires.3 in
    (first_rise _ _ _ _ w c.past.result c.past.ensures, first_lift _ _ _ _ w c.past-2.result c.past-2.ensures, rw (zero-mul c.args.n) (columns_none c.args.n _ _))

pub overflow_add-at : goal.overflow_add-at
overflow_add-at c =
    (at_first _ _ _ _ (small_back c.args.o c.requires.0 c.requires.1 c.requires.2 c.requires.3) c.loop-x.x _ _ (omega arith) c.loop-x.invariant.0 c.loop-x.invariant.1).0

pub loop-y-init : goal.loop-y-init
loop-y-init c =
    let e = (at_first _ _ _ _ (small_back c.args.o c.requires.0 c.requires.1 c.requires.2 c.requires.3) c.loop-x.x _ _ (omega arith) c.loop-x.invariant.0 c.loop-x.invariant.1).1 in
    (e, λ l h e. e ∙ ap (columns _ _ l) (omega arith))

-- the place lies in the block
pub bounds-out-y : goal.bounds-out-y
bounds-out-y c = omega (arith, row_in c.loop-y.y c.args.n (omega arith), c.requires)

pub overflow_add-at-in-loop-y : goal.overflow_add-at-in-loop-y
overflow_add-at-in-loop-y c =
    (at_next _ _ _ _ (small_back c.args.o c.requires.0 c.requires.1 c.requires.2 c.requires.3) c.loop-x.x c.loop-y.y _ (omega arith) (omega arith) c.loop-y.invariant.0).0

pub loop-y-preserved : goal.loop-y-preserved
loop-y-preserved c =
    let n = c.args.n in
    let x = c.loop-x.x in
    let y = c.loop-y.y in
    let hx : x < n = omega arith in
    let e = (at_next _ _ _ _ (small_back c.args.o c.requires.0 c.requires.1 c.requires.2 c.requires.3) x y _ (omega arith) (omega arith) c.loop-y.invariant.0).1 in (
      e,
      λ l h q. columns_more n _ l x y c.loop-y.out hx (omega arith) h (c.loop-y.invariant.1 l h q)
          (c.sample_of.ensures ∙ clipped_is _ _ _ _ x y _ c.loop-y.invariant.0 ∙ sym (ap₂ (ramp _ _ _ _) (digits_mod y hx) (digits_div y hx))),
    )

pub overflow_add-rise-in-loop-x : goal.overflow_add-rise-in-loop-x
overflow_add-rise-in-loop-x c = (rise_next _ _ _ _ (small_back c.args.o c.requires.0 c.requires.1 c.requires.2 c.requires.3) c.loop-x.x _ (omega arith) c.loop-x.invariant.0).0

pub loop-x-preserved : goal.loop-x-preserved
loop-x-preserved c =
    let n = c.args.n in
    let x = c.loop-x.x in
    let m : x * n + c.loop-y.y ≡ (x + 1) * n = rw (add-one x) (omega (arith, suc-mul x n)) in
    let e = (rise_next _ _ _ _ (small_back c.args.o c.requires.0 c.requires.1 c.requires.2 c.requires.3) x _ (omega arith) c.loop-x.invariant.0).1 in
    (e, c.loop-x.invariant.1, c.loop-y.invariant.1 c.args.out.now (omega (arith, c.requires)) c.loop-x.invariant.2 ∙ ap (columns n _ _) m)

pub returns : goal.returns
returns c =
    let n = c.args.n in
    let s = c.args.s in
    let fa : SFits w32 s.a = search rules in
    let fb : SFits w32 s.b = search rules in
    let fc : SFits w32 s.c = search rules in
    let e : c.loop-x.x ≡ n = omega arith in
    (rw e at c.loop-x.invariant.2) ∙ columns_all n _ _ (omega (arith, c.requires))
    ∙ onto_same (n * n) _ _ _ (λ i h. ramp_back c.args.o (i % n) (i / n) fa fb fc)
