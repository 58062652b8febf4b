-- `cores::copy::copy_row` meets its contract. The invariant: the first i samples are put. Assumes nothing.
use mathlib.Core.Path.{◌≡◌, ap, ◌∙◌}
use native.Mathlib.Omega.{arith}
use lib.ListN.{get_or}
use lib.Seq.{get_or-take}
use Rattle.std.specs.Array.{IsFirstChunk}
use Rattle.laws.proofs.Patches.{front, front_none, front_more}
use Rattle.cores.proofs.copy.copy_row.Goals as goal

pub loop-i-init : goal.loop-i-init
loop-i-init g c = front_none _ _

pub loop-i-preserved : goal.loop-i-preserved
loop-i-preserved g c =
    let row : IsFirstChunk c.args.from.now c.unwrap.result.now g.row.W = rw (c.unwrap.ensures) at c.first_chunk.ensures.cases in
    front_more _ _ _ _ _ (omega arith) (ap (λ l. get_or l c.loop-i.i 0) row.same ∙ get_or-take g.row.W c.args.from.now c.loop-i.i 0 (omega arith))
    c.loop-i.invariant

pub returns : goal.returns
returns g c =
    let e : c.loop-i.i ≡ g.row.W = omega arith in
    c.loop-i.invariant ∙ ap (λ n. front (λ i. get_or c.args.from.now i 0) n c.args.to.now) e
