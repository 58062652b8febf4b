-- `waits::block_waited` meets its contract: no neighbour holds a group of a block that stands inside, and else those that the sides and the mode tell. Assumes
-- nothing.
use mathlib.Core.Path.{◌≡◌, sym, ap, ap₂, ◌∙◌}
use mathlib.Core.Bool.{not}
use Prim.Native.Nat.{◌<◌}
use native.Mathlib.Omega.{arith}
use borrow.Author.Tests.{lt-ltb, not-true}
use lib.Dec.{eqb}
use Rattle.laws.proofs.Tests.{and_both}
use Rattle.maps.specs.Neighbours.{marks_of}
use Rattle.cut.specs.Cut.{cut_for, used, sides_of}
use Rattle.cut.specs.Kind.{kind_number}
use Rattle.cut.proofs.ByKind.{used_is}
use Rattle.reads.specs.Groups.{groups_of}
use Rattle.waits.specs.Waits.{holds_one, predictor_for}
use Rattle.waits.proofs.Holders.{column_is, row_is, inside_none, no_marks}
use Rattle.waits.proofs.block_waited.Goals as goal

pub returns-then-scan_column-scan_row : goal.returns-then-scan_column-scan_row
returns-then-scan_column-scan_row c = let a = c.args in
    let n = kind_number a.kind in
    let m = (cut_for n).across in
    let b = and_both (not (eqb c.scan_column.result 0)) (not (eqb c.scan_row.result 0)) c.if-scan_column-scan_row.true in
    let read = (predictor_for n).reads (groups_of (sides_of m (marks_of a.marks) a.k)) a.mode in
    no_marks c.default.ensures
    ∙ inside_none m a.k c.requires read (ap (λ n. eqb n 0) (sym (c.scan_column.ensures ∙ column_is m a.k c.requires)) ∙ not-true _ b.0)
    (ap (λ n. eqb n 0) (sym (c.scan_row.ensures ∙ row_is m a.k c.requires)) ∙ not-true _ b.1)

pub holders_of-requires : goal.holders_of-requires
holders_of-requires c = rw c.across.ensures c.requires

pub returns : goal.returns
returns c = let a = c.args in
    let n = kind_number a.kind in
    let low : a.k < used n = omega (arith, c.requires.one, used_is n) in
    let sides : c.sides_at.result ≡ sides_of (cut_for n).across (marks_of a.marks) a.k = c.sides_at.ensures ∙ rw (lt-ltb a.k (used n) low) in
    c.holders_of.ensures
    ∙ ap₂ (λ n r. holds_one n a.k r) c.across.ensures (c.groups_for-read.ensures ∙ ap (λ z. (predictor_for n).reads (groups_of z) a.mode) sides)
