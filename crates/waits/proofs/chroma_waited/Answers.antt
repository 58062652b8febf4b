-- `waits::chroma_waited` meets its contract: the square is one block. Assumes nothing.
use mathlib.Core.Path.{ap, ◌∙◌}
use lib.Dec.{lit≤}
use Rattle.laws.specs.Table.{some_below}
use Rattle.cut.specs.Cut.{is_there, scan_x, scan_y}
use Rattle.cut.proofs.Scan.{scan_1}
use Rattle.reads.specs.Groups.{groups_of, reads_chroma}
use Rattle.waits.specs.Waits.{holds_one}
use Rattle.waits.proofs.chroma_waited.Goals as goal

pub holders_of-requires : goal.holders_of-requires
holders_of-requires c = record { scan = scan_1; few = lit≤ tt; one = lit≤ tt }

pub returns : goal.returns
unfolding some_below is_there scan_x scan_y
returns c = c.holders_of.ensures ∙ ap (holds_one 1 0) (c.groups.ensures.value ∙ ap (λ z. reads_chroma (groups_of z) c.args.mode) c.square_sides.ensures)
