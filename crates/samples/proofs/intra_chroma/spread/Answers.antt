-- `samples::intra_chroma::spread` meets its contract. After y turns the first y rows are put, each in two halves. Assumes nothing.
use mathlib.Core.Path.{◌≡◌, ap}
use Prim.Native.Nat.{ℕ, ◌+◌, ◌*◌}
use native.Mathlib.Omega.{arith}
use lib.ListN.{get_or}
use Rattle.laws.proofs.Ontos.{onto_none}
use Rattle.basics.proofs.Fills.{fill_part}
use Rattle.samples.proofs.intra_chroma.spread.Goals as goal

pub loop-y-init : goal.loop-y-init
loop-y-init c = onto_none _ _

pub loop-y-preserved : goal.loop-y-preserved
loop-y-preserved c = let y = c.loop-y.y in
    let d = c.args.d.now in
    let next : 8 * y + 8 ≡ 8 * (y + 1) = omega arith in
    let e₁ = fill_part (8 * y) (8 * y + 4) _ _ _ c.loop-y.out (omega arith) (omega arith) c.loop-y.invariant (c.fill.ensures.after (λ v e. e)) (λ i l. ap (λ (k : ℕ). get_or d k 0) (omega arith)) in
    rw (← next) (fill_part (8 * y + 4) (8 * y + 8) _ _ _ _ (omega arith) (omega arith) e₁ (c.fill-in-loop-y.ensures.after (λ v e. e)) (λ i l. ap (λ (k : ℕ). get_or d k 0) (omega arith)))
