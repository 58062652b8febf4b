-- `macroblock::beside::left_of` meets its contract. Where the side is there, the invariant: the samples passed are read. Assumes nothing.
use Prim.Native.Nat.{◌+◌, ◌*◌, ◌-◌}
use lib.ListN.{get_or}
use Rattle.laws.proofs.Tables.{Filled}
use Rattle.macroblock.proofs.beside.left_of.Given as goal

abbrev pub invariant-loop-t : goal.invariant-loop-t
invariant-loop-t g l =
    Filled 0 (λ i. get_or l.plane ((l.place.row * g.row.Q + i) * l.place.stride + (l.place.column * g.row.Q - 1)) 0) g.row.Q l.t l.out
