-- `order_check::places::note_places` meets its contract: the entries before i are noted. Assumes nothing.
use Rattle.std.proofs.Common.{arith, refl}
use Rattle.order_check.proofs.Named.{noted_none, noted_more}
use Rattle.order_check.proofs.places.note_places.Goals as goal

pub loop-i-init : goal.loop-i-init
loop-i-init c = noted_none c.args.order.now c.args.places.now c.requires.table.none

pub loop-i-preserved : goal.loop-i-preserved
loop-i-preserved c = let l = c.loop-i in
    let inside = c.requires.inside l.i (omega arith) in
    noted_more c.args.order.now l.i _ l.places l.invariant (omega arith) refl (omega arith) (omega (arith, c.requires.few)) c.if-place.false
