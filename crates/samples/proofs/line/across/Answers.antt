-- `samples::line::across` meets its contract. After y turns the first y rows are put, each through its own part of the block. Assumes nothing.
use mathlib.Core.Path.{◌≡◌, sym, ap, ◌∙◌}
use Prim.Native.Nat.{◌+◌, ◌*◌, ◌<◌}
use native.Mathlib.Nat.{suc-mul, zero-mul}
use native.Mathlib.Numerals.{add-one}
use native.Mathlib.Omega.{arith}
use lib.Arith.{digits_div}
use Rattle.laws.proofs.Digits.{row_in}
use Rattle.laws.proofs.Ontos.{onto_none}
use Rattle.basics.proofs.Fills.{fill_part}
use Rattle.samples.specs.inner.Line.{sample}
use Rattle.samples.proofs.line.across.Goals as goal

pub loop-y-init : goal.loop-y-init
loop-y-init g c = rw (zero-mul g.row.N) (onto_none _ _)

pub loop-y-preserved : goal.loop-y-preserved
loop-y-preserved g c =
    let n = g.row.N in
    let y = c.loop-y.y in
    let h : y < n = omega arith in
    let next : y * n + n ≡ (y + 1) * n = rw add-one (sym (suc-mul y n)) in
    rw (← next) (fill_part (y * n) (y * n + n) _ _ _ c.loop-y.out (omega arith) (omega (arith, row_in y n h)) c.loop-y.invariant (c.fill.ensures.after (λ v e. e))
    (λ x l. c.get.ensures ∙ ap (sample c.args.left) (sym (digits_div y {m = n} {r = x} (omega arith)))))
