-- `intra_nxn::run::Neighbours::dc` meets its contract: as far as the loop's counter, the sums are those of the run's samples, each below 256. Assumes nothing.
use mathlib.Core.Path.{◌≡◌, refl, ap, ◌∙◌}
use Prim.Native.Nat.{ℕ, ◌+◌}
use native.Mathlib.Omega.{arith}
use lib.ListN.{get_or}
use Rattle.laws.specs.Table.{sum_of}
use Rattle.laws.proofs.Sums.{sum_more}
use Rattle.basics.proofs.Dc.{dc_is}
use Rattle.intra_nxn.proofs.run.Neighbours.dc.Goals as goal

pub loop-i-init : goal.loop-i-init
unfolding sum_of
loop-i-init g c = (refl, refl, omega arith, omega arith)

pub loop-i-preserved : goal.loop-i-preserved
loop-i-preserved g c = let h = c.loop-i.invariant in (
  sum_more c.loop-i.i _ _ _ h.0 c.from-sum_above.ensures,
  sum_more c.loop-i.i _ _ _ h.1 c.from-sum_left.ensures,
  omega (arith, c.from-sum_above.ensures),
  omega (arith, c.from-sum_left.ensures),
)

pub returns : goal.returns
returns g c p run = let h = c.loop-i.invariant in
    let s = c.args.sides in
    let end : c.loop-i.i ≡ g.row.N = omega arith in
    dc_is g.row.N s.above s.left p _ _ (omega arith) c.mean_of.ensures (λ _. (rw end at h.0, rw end at h.2)) (λ _. (rw end at h.1, rw end at h.3))
    (λ k l. ap (λ (z : ℕ). get_or c.args.self.now.run z 0) (omega arith) ∙ run.above (k + 1) (omega arith))
    (λ k l. ap (λ (z : ℕ). get_or c.args.self.now.run z 0) (omega arith) ∙ run.left (k + 1) (omega arith))
