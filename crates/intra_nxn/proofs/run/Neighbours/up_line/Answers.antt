-- `intra_nxn::run::Neighbours::up_line` meets its contract. The last sample stands all along; after i turns the first 2i places are the means.
-- Assumes nothing.
use mathlib.Core.Path.{◌≡◌, refl, ◌∙◌}
use Prim.Native.Nat.{◌+◌, ◌*◌, ◌-◌}
use native.Mathlib.Omega.{arith}
use lib.ListN.{set, get_or-replicate}
use lib.Seq.{get_or-set_other}
use Rattle.intra_nxn.proofs.Slides.{line_none, pair_more, past_all}
use Rattle.intra_nxn.proofs.run.Neighbours.up_line.Goals as goal

pub loop-i-init : goal.loop-i-init
loop-i-init g c = (line_none _ _ refl, λ k a b. get_or-replicate 32 k _ 0 b)

pub loop-i-preserved : goal.loop-i-preserved
loop-i-preserved g c = let l = c.loop-i in (
  pair_more (2 * g.row.N - 2) _ _ _ l.i l.line (omega arith) (omega arith) l.invariant.0 c.mean_from.ensures c.mean_round.ensures,
  λ k a b. get_or-set_other (set l.line (2 * l.i) _) (2 * l.i + 1) k _ 0 (omega arith) ∙ get_or-set_other l.line (2 * l.i) k _ 0 (omega arith)
      ∙ l.invariant.1 k a b,
)

pub returns : goal.returns
returns g c = let l = c.loop-i in
    let n = g.row.N in
    let e : 2 * l.i ≡ 2 * n - 2 = omega arith in
    past_all (2 * n - 2) (3 * n - 2) _ _ _ l.line (rw e at l.invariant.0) (λ k a b. l.invariant.1 k a (omega arith))
