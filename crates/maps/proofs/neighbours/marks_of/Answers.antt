-- `maps::neighbours::marks_of` meets its contract: where rules 1 to 3 hold, the marks are those of a macroblock in the slice map. Assumes nothing.
use mathlib.Core.Path.{sym, ap, ◌∙◌}
use mathlib.Core.Bool.{◌&&◌}
use Rattle.maps.specs.Neighbours.{available}
use Rattle.maps.proofs.neighbours.marks_of.Goals as goal

pub returns : goal.returns
returns c = let s = c.args.spot in
    c.marks_inside.ensures ∙ ap (λ b k. b && available s.w c.args.slices.now s.x s.y k) (sym c.if-not-is_mapped.false ∙ c.is_mapped.ensures)
