-- `waits::holders_of` meets its contract: the tables have the block's column and row. Assumes nothing.
use mathlib.Core.Path.{ap₂, ◌∙◌}
use Prim.Native.Nat.{◌+◌}
use lib.Dec.{eqb}
use Rattle.reads.specs.Groups.{groups_of}
use Rattle.waits.specs.inner.Holders.{holders_at}
use Rattle.waits.proofs.Holders.{column_is, row_is, holders_are}
use Rattle.waits.proofs.holders_of.Goals as goal

pub returns : goal.returns
returns c = let b = c.requires in
    c.holders_at.ensures
    ∙ ap₂ (λ i j. holders_at (eqb i 0) (eqb j 0) (eqb (i + 1) c.args.m) (groups_of c.args.read))
    (c.from-column.ensures ∙ c.scan_column.ensures ∙ column_is c.args.m c.args.k b)
    (c.from-row.ensures ∙ c.scan_row.ensures ∙ row_is c.args.m c.args.k b)
    ∙ holders_are c.args.m c.args.k b (groups_of c.args.read)
