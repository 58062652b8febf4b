-- `macroblock::squares::luma_square` meets its contract. The invariant: the first k blocks are rebuilt. Assumes nothing.
use mathlib.Core.Path.{◌≡◌}
use mathlib.Core.List.{List}
use lib.IntN.{ℤ}
use Rattle.laws.specs.Steps.{up_to}
use Rattle.cut.specs.Kind.{kind_number}
use Rattle.maps.specs.Neighbours.{marks_of}
use Rattle.cut.specs.Cut.{cut_for}
use Rattle.macroblock.specs.Kinds.{luma_rule}
use Rattle.macroblock.specs.Square.{part}
use Rattle.macroblock.specs.inner.Blocks.{Transformed, first_for}
use Rattle.macroblock.proofs.squares.luma_square.Given as goal

abbrev pub invariant-loop-k : goal.invariant-loop-k
invariant-loop-k l = (numbers : List ℤ) → Transformed (first_for (kind_number l.kind)) numbers l.residuals.list.now
    → l.plane ≡ up_to (part (cut_for (kind_number l.kind)) (luma_rule (kind_number l.kind) l.modes numbers) l.spot.strides.luma l.spot.x l.spot.y (marks_of l.spot.marks)) l.k l.initial.plane
