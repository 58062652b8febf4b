-- `macroblock::squares::luma_square` meets its contract. The invariant: the first k blocks are rebuilt. Assumes nothing.
use mathlib.Core.Path.{◌≡◌, ap, ◌∙◌}
use native.Mathlib.Omega.{arith}
use Rattle.laws.specs.Steps.{up_to}
use Rattle.laws.proofs.Steps.{steps_none, steps_more}
use Rattle.cut.specs.Kind.{kind_number}
use Rattle.maps.specs.Neighbours.{marks_of}
use Rattle.cut.specs.Cut.{blocks, cut_for}
use Rattle.cut.proofs.ByKind.{used_is}
use Rattle.macroblock.specs.Kinds.{luma_rule}
use Rattle.macroblock.specs.Square.{part}
use Rattle.macroblock.proofs.squares.luma_square.Goals as goal

pub loop-k-init : goal.loop-k-init
loop-k-init c = λ numbers T. steps_none _ _

pub loop-k-preserved : goal.loop-k-preserved
loop-k-preserved c numbers T =
    steps_more _ c.loop-k.k c.args.plane.now c.loop-k.plane _ (c.loop-k.invariant numbers T) (c.luma_block.ensures numbers T)

pub returns : goal.returns
returns c numbers T = let a = c.args in
    let e : c.loop-k.k ≡ blocks (cut_for (kind_number a.kind)) = omega (arith, c.used_modes-k-end.ensures, used_is (kind_number a.kind)) in
    c.loop-k.invariant numbers T
    ∙ ap (λ c. up_to (part (cut_for (kind_number a.kind)) (luma_rule (kind_number a.kind) a.modes.now numbers) a.spot.strides.luma a.spot.x a.spot.y (marks_of a.spot.marks)) c a.plane.now) e
