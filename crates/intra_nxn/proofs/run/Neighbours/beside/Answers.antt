-- `intra_nxn::run::Neighbours::beside` meets its contract. After y turns the first y rows are put, each through its own part of the block. Assumes nothing.
use mathlib.Core.Path.{◌≡◌, sym, ap, ◌∙◌}
use Prim.Native.Nat.{ℕ, ◌+◌, ◌*◌, ◌-◌, ◌≤◌, ◌<◌}
use native.Mathlib.Nat.{add-mul, mul-le-mul_right}
use native.Mathlib.Omega.{arith}
use lib.Arith.{digits_div}
use lib.ListN.{get_or}
use Rattle.laws.proofs.Ontos.{onto_none}
use Rattle.basics.proofs.Fills.{fill_part}
use Rattle.intra_nxn.proofs.run.Neighbours.beside.Goals as goal

-- where the next row begins, and that row y lies in the block
inside : (n y : ℕ) → y + 1 ≤ n → ((y + 1) * n ≡ y * n + n) × ((y + 1) * n ≤ n * n)
inside n y l = (add-mul y 1 n ∙ omega arith, mul-le-mul_right n l)

pub loop-y-init : goal.loop-y-init
loop-y-init g c = let none : 0 * g.row.N ≡ 0 = omega arith in rw none (onto_none _ _)

pub loop-y-preserved : goal.loop-y-preserved
loop-y-preserved g c = let y = c.loop-y.y in
    let n = g.row.N in
    let here = inside n y (omega arith) in
    let e = fill_part (y * n) (y * n + n) _ _ _ c.loop-y.out (omega arith) (omega (arith, here)) c.loop-y.invariant (c.fill.ensures.after (λ v h. h))
    (λ x l. ap (λ (k : ℕ). get_or c.args.self.now.run (9 - k) 0) (sym (digits_div y (let h : x < n = omega arith in h)))) in
    rw here.0 e
