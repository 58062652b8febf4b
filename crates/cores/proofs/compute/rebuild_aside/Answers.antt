-- `cores::compute::rebuild_aside` meets its contract: the small planes show the same around the macroblock, so that the macroblock call leaves there what it
-- leaves here. Assumes nothing.
use mathlib.Core.Path.{◌≡◌, ◌∙◌}
use native.Mathlib.Omega.{arith}
use Rattle.std.proofs.Common.{rules}
use Rattle.refusals.specs.Refusal.{number_of}
use Rattle.maps.specs.Neighbours.{marks_of}
use Rattle.macroblock.specs.Kinds.{record_in}
use Rattle.calls.specs.Planes.{three}
use Rattle.cores.proofs.Aside.{there_is_room, each, cut_of}
use Rattle.cores.proofs.compute.rebuild_aside.Goals as goal

pub returns-in_err-rebuild-clause-value : goal.returns-in_err-rebuild-clause-value
returns-in_err-rebuild-clause-value c =
    let a = c.args in
    let r : number_of c.from_residual.result ≡ number_of c.rebuild.result = search rules in
    r ∙ c.rebuild.ensures.value ∙ there_is_room (marks_of a.marks) a.ready (record_in a.rec) (omega arith) (omega arith) (omega arith)

pub returns-clause-block_after : goal.returns-clause-block_after
returns-clause-block_after c =
    let a = c.args in
    let p = a.planes in
    cut_of p.strides a.x a.y (marks_of a.marks) (three p.luma.now p.cb.now p.cr.now) c.requires.marks_value (record_in a.rec)
    (three c.bring_around.new.small c.bring_around-2.new.small c.bring_around-3.new.small)
    (each _ (omega arith) (omega arith) (omega arith)) (each _ c.bring_around.ensures c.bring_around-2.ensures c.bring_around-3.ensures)
    a.block.now _ _ _ c.requires.block_len (rw (c.middle.ensures.0, c.middle.ensures.1) at c.copy_rect.ensures)
    (rw (c.middle-2.ensures.0, c.middle-2.ensures.1) at c.copy_rect-2.ensures) (rw (c.middle-3.ensures.0, c.middle-3.ensures.1) at c.copy_rect-3.ensures)
    (search rules) (search rules) (search rules)
