-- `cores::commit::commit` meets its contract: the rules before a record, which none of them looks at, and then the three squares of the block, the mark and
-- the count. Assumes nothing.
use mathlib.Core.Path.{◌≡◌, refl, sym, ◌∙◌}
use mathlib.Core.Logic.{inl, inr}
use mathlib.Core.List.{[]}
use native.Mathlib.Omega.{arith}
use Rattle.std.proofs.Common.{rules}
use Rattle.refusals.specs.Refusal.{number_of}
use Rattle.maps.specs.Progress.{progress_of}
use Rattle.macroblock.specs.Kinds.{record_of}
use Rattle.macroblock.specs.declared.Record.{Record}
use Rattle.calls.specs.Planes.Plane.{luma, cb, cr}
use Rattle.calls.specs.Rebuild.{call, lent}
use Rattle.calls.proofs.Rebuilt.{lent_same}
use Rattle.halves.specs.Halves.{commit_answer}
use Rattle.halves.proofs.Committed.{commit_refused, commit_taken, lent_committed}
use Rattle.cores.proofs.Opened.{Within, within}
use Rattle.cores.proofs.commit.commit.Goals as goal
use Rattle.cores.proofs.commit.commit.Goals.{After-refuse, In_ok-refuse}

-- a record is asked for, and none is looked at
nothing : Record
nothing = record_of 0 [] 0 []

-- the first rules answer as the definition, and where the call goes on they hold
opened : (c : After-refuse) (m : Record) → let a = c.args in let p = a.planes.now in
    number_of c.refuse.result
    ≡ commit_answer (call a.spot p.strides a.slices.now m) a.block.now (lent p.luma.now p.cb.now p.cr.now a.done.now (progress_of a.progress.now))
opened c m = let e = c.shown.ensures in rw (e.0, e.1, e.2, e.3, c.from-before.ensures) at (c.refuse.ensures.open m)

fine : (c : In_ok-refuse) (m : Record) → let a = c.args in let p = a.planes.now in
    0 ≡ commit_answer (call a.spot p.strides a.slices.now m) a.block.now (lent p.luma.now p.cb.now p.cr.now a.done.now (progress_of a.progress.now))
fine c m = let e = c.shown.ensures in rw (e.0, e.1, e.2, e.3, c.from-before.ensures) at (c.in_ok-refuse.ensures.open m)

-- so each square lies in its plane and the address in the maps
passed : (c : In_ok-refuse) → let a = c.args in let p = a.planes.now in
    Within (call a.spot p.strides a.slices.now nothing) (lent p.luma.now p.cb.now p.cr.now a.done.now (progress_of a.progress.now)) a.block.now
passed c = within _ _ c.args.block.now (sym (fine c nothing))

pub returns-in_err-refuse-clause-commits : goal.returns-in_err-refuse-clause-commits
returns-in_err-refuse-clause-commits c m =
    let e : number_of c.from_residual.result ≡ number_of c.refuse.result = search rules in
    commit_refused _ c.args.block.now _ (e ∙ opened (goal.at.returns-in_err-refuse-clause-commits c).After-refuse m) (search rules)

pub put_square-requires : goal.put_square-requires
put_square-requires c =
    let w = passed (goal.at.put_square-requires c).In_ok-refuse in
    record { half = (inr refl, refl, omega arith); q_bound = w.square luma }

pub put_square-requires-2 : goal.put_square-requires-2
put_square-requires-2 c =
    let w = passed (goal.at.put_square-requires-2 c).In_ok-refuse in
    record { half = (inl refl, refl, omega arith); q_bound = w.square cb }

pub put_square-requires-3 : goal.put_square-requires-3
put_square-requires-3 c =
    let w = passed (goal.at.put_square-requires-3 c).In_ok-refuse in
    record { half = (inl refl, refl, omega arith); q_bound = w.square cr }

pub overflow_mul-here : goal.overflow_mul-here
overflow_mul-here c = let w = passed (goal.at.overflow_mul-here c).In_ok-refuse in omega arith

pub overflow_add-here : goal.overflow_add-here
overflow_add-here c = let w = passed (goal.at.overflow_add-here c).In_ok-refuse in omega arith

pub bounds-done-here : goal.bounds-done-here
bounds-done-here c = let w = passed (goal.at.bounds-done-here c).In_ok-refuse in omega arith

pub overflow_mul-spot : goal.overflow_mul-spot
overflow_mul-spot c = let w = passed (goal.at.overflow_mul-spot c).In_ok-refuse in omega arith

pub returns-clause-commits : goal.returns-clause-commits
returns-clause-commits c m =
    let a = c.args in
    let p = a.planes.now in
    let d = call a.spot p.strides a.slices.now m in
    commit_taken d a.block.now _ _ (fine (goal.at.returns-clause-commits c).In_ok-refuse m)
    (lent_same c.put_square.ensures c.put_square-2.ensures c.put_square-3.ensures refl (search rules)
    ∙ lent_committed d a.block.now p.luma.now p.cb.now p.cr.now a.done.now (progress_of a.progress.now))
