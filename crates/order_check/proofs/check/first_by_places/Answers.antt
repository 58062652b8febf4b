-- `order_check::check::first_by_places` meets its contract: an entry out of place names a macroblock again or comes too early. Assumes nothing.
use Rattle.std.proofs.Common.{ℕ, arith, ◌∙◌}
use lib.ListN.{length-replicate}
use Rattle.order_check.proofs.FirstOut.{first_out}
use Rattle.order_check.proofs.check.first_by_places.Goals as goal

pub returns : goal.returns
returns g c = let n = c.note_places-named in
    let m = c.args.map in
    c.from.ensures ∙ c.min.ensures
    ∙ first_out m.w m.h m.slices.now c.args.order.now _ _ n.result c.earliest.result c.requires.0
    (omega (arith, c.requires.1, length-replicate {A = ℕ} g.row.N 65535)) n.ensures c.earliest.ensures
