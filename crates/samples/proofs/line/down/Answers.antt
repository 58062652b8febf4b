-- `samples::line::down` meets its contract. After y turns the first y rows are put, each through its own part of the block. Assumes nothing.
use mathlib.Core.Path.{◌≡◌, sym, ap, ◌∙◌}
use Prim.Native.Nat.{◌+◌, ◌-◌, ◌*◌, ◌<◌}
use native.Mathlib.Nat.{suc-mul, zero-mul}
use native.Mathlib.Numerals.{add-one}
use native.Mathlib.Omega.{arith}
use lib.Arith.{digits_mod}
use Rattle.laws.proofs.Digits.{row_in}
use Rattle.laws.proofs.Ontos.{onto_none, onto_all}
use Rattle.laws.proofs.Tables.{get_d_table, table_same}
use Rattle.samples.specs.inner.Line.{sample}
use Rattle.samples.proofs.Rows.{row_put}
use Rattle.samples.proofs.line.down.Goals as goal

pub loop-y-init : goal.loop-y-init
loop-y-init g c = rw (zero-mul g.row.N) (onto_none _ _)

pub loop-y-preserved : goal.loop-y-preserved
loop-y-preserved g c =
    let n = g.row.N in
    let y = c.loop-y.y in
    let h : y < n = omega arith in
    let next : y * n + n ≡ (y + 1) * n = rw add-one (sym (suc-mul y n)) in
    let wide : y * n + n - y * n ≡ n = omega arith in
    rw (← next) (row_put (y * n) (y * n + n) _ _ c.loop-y.out _ (omega arith) (omega (arith, row_in y n h)) c.loop-y.invariant
    (c.put_row.ensures ∙ onto_all n _ _ (omega arith)
    ∙ rw wide (table_same n _ _ (λ x l. rw (c.first-row.ensures, get_d_table 0 n (sample c.args.top) x l) (ap (sample c.args.top) (sym (digits_mod y {m = n} {r = x} l)))))))
