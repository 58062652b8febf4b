-- `cores::compute::compute` meets its contract: the first rules, with the block among the lists, and then the macroblock beside the planes, whose rules are
-- those that are left. Assumes nothing.
use mathlib.Core.Path.{◌≡◌, sym, ap, ◌∙◌}
use Rattle.std.proofs.Common.{rules}
use Rattle.refusals.specs.Refusal.{number_of}
use Rattle.maps.specs.Progress.{progress_of}
use Rattle.macroblock.specs.Kinds.{record_in}
use Rattle.laws.specs.Answer.{answer}
use Rattle.calls.specs.Rebuild.{call, lent, open_rules}
use Rattle.halves.proofs.Computed.{opens, compute_refused}
use Rattle.cores.proofs.Opened.{rooms_right, block_right, computed}
use Rattle.cores.proofs.compute.compute.Goals as goal
use Rattle.cores.proofs.compute.compute.Goals.{After-refuse, In_ok-refuse}

-- the first rules are those of the whole call, the block among the lists
opened : (c : After-refuse) → let a = c.args in let p = a.planes in let d = call a.spot p.strides a.slices.now (record_in a.rec) in
    number_of c.refuse.result ≡ opens d (lent p.luma.now p.cb.now p.cr.now a.done.now (progress_of a.progress.now)) a.block.now
opened c =
    let a = c.args in
    let p = a.planes in
    let d = call a.spot p.strides a.slices.now (record_in a.rec) in
    let s = lent p.luma.now p.cb.now p.cr.now a.done.now (progress_of a.progress.now) in
    rw (c.from-so_far.ensures) at (c.refuse.ensures.open (record_in a.rec)) ∙ ap (λ b. answer (open_rules d s b)) (search rules)

fine : (c : In_ok-refuse) → let a = c.args in let p = a.planes in
    opens (call a.spot p.strides a.slices.now (record_in a.rec)) (lent p.luma.now p.cb.now p.cr.now a.done.now (progress_of a.progress.now)) a.block.now ≡ 0
fine c =
    let a = c.args in
    let p = a.planes in
    let d = call a.spot p.strides a.slices.now (record_in a.rec) in
    let s = lent p.luma.now p.cb.now p.cr.now a.done.now (progress_of a.progress.now) in
    sym (rw (c.from-so_far.ensures) at (c.in_ok-refuse.ensures.open (record_in a.rec)) ∙ ap (λ b. answer (open_rules d s b)) (search rules))

pub returns-in_err-refuse : goal.returns-in_err-refuse
returns-in_err-refuse c =
    let e : number_of c.from_residual.result ≡ number_of c.refuse.result = search rules in
    compute_refused _ _ c.args.block.now (e ∙ opened (goal.at.returns-in_err-refuse c).After-refuse) (search rules)

pub rebuild_aside-requires : goal.rebuild_aside-requires
rebuild_aside-requires c =
    let a = c.args in
    let p = a.planes in
    let d = call a.spot p.strides a.slices.now (record_in a.rec) in
    let s = lent p.luma.now p.cb.now p.cr.now a.done.now (progress_of a.progress.now) in
    let e = fine (goal.at.rebuild_aside-requires c).In_ok-refuse in
    record { marks_value = rooms_right d s a.block.now e c.marks_of-marks.ensures; block_len = block_right d s a.block.now e c.marks_of-marks.ensures }

pub returns : goal.returns
returns c =
    let a = c.args in
    let p = a.planes in
    let d = call a.spot p.strides a.slices.now (record_in a.rec) in
    let s = lent p.luma.now p.cb.now p.cr.now a.done.now (progress_of a.progress.now) in
    let e = fine (goal.at.returns c).In_ok-refuse in
    computed d s a.block.now e c.marks_of-marks.ensures (c.is_ready-ready.ensures a.rec.numbers.now) c.rebuild_aside.ensures.value c.rebuild_aside.ensures.block_after
