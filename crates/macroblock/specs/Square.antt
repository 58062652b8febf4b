-- A macroblock's square in one plane, rebuilt block by block: each block from the samples beside it, as they stand when its turn comes. For every cut and
-- every rule of a block's samples.
use Rattle.std.specs.Prelude.{Bool, cond, ◌&&◌, List, ℕ, ◌+◌, ◌*◌, ◌-◌, ◌/◌, ◌%◌, min, eqb, get_or}
use Rattle.laws.specs.Patch.{patch}
use Rattle.laws.specs.Steps.{up_to}
use Rattle.laws.specs.Table.{table}
use Rattle.basics.specs.Near.{Near, near}
use Rattle.maps.specs.Neighbours.{Side}
use Rattle.macroblock.specs.declared.place.Place.{Place}
use Rattle.basics.specs.declared.marks.Sides.{Sides}
use Rattle.cut.specs.Cut.{Cut, blocks, scan_x, scan_y, sides_of}

-- a plane cut into blocks of one side: place i lies in the block in that row and column of blocks
abbrev pub in_block : (side stride row column i : ℕ) → Bool
in_block side stride row column i = eqb (i / stride / side) row && eqb (i % stride / side) column

abbrev pub place_at : (stride row column : ℕ) → Place
place_at stride row column = record { stride = stride; row = row; column = column }

-- 6.4.3: where block k stands, of m across in a square that stands at p
abbrev pub place_of : ℕ → Place → ℕ → Place
place_of m p k = record { stride = p.stride; row = p.row * m + scan_y k; column = p.column * m + scan_x k }

-- the plane with the block at p put anew: u x y in its column x and row y
abbrev pub put_block : ℕ → Place → (ℕ → ℕ → ℕ) → List ℕ → List ℕ
put_block side p u plane = patch (in_block side p.stride p.row p.column) (λ i. u (i % p.stride % side) (i / p.stride % side)) plane

-- ---- the samples beside the block at p. An absent side is not read, and shows as 0
module _ (side : ℕ) (p : Place) (plane : List ℕ) (sides : Sides) where
  -- the sample in column x and row y of the plane
  abbrev sample_at : ℕ → ℕ → ℕ
  sample_at x y = get_or plane (y * p.stride + x) 0

  -- n samples above: they go on above and to the right where that is there, else the last one is repeated (8.3.1.2, 8.3.2.2)
  unfoldable pub above_of : ℕ → List ℕ
  above_of n =
      table n (λ t. cond sides.above (sample_at (p.column * side + min t (cond sides.above_right (2 * side - 1) (side - 1))) (p.row * side - 1)) 0)

  unfoldable pub left_of : List ℕ
  left_of = table side (λ t. cond sides.left (sample_at (p.column * side - 1) (p.row * side + t)) 0)

  unfoldable pub corner_of : ℕ
  corner_of = cond sides.corner (sample_at (p.column * side - 1) (p.row * side - 1)) 0

  -- the neighbourhood with n samples above
  abbrev pub near_block : ℕ → Near
  near_block n = near (above_of n) left_of corner_of

-- a block's sample in column x and row y: from the block's number, its sides and its neighbourhood
abbrev pub Rule : Type 0
Rule = ℕ → Sides → Near → ℕ → ℕ → ℕ

-- macroblock (x, y) of a plane with that stride, whose neighbours have the marks
module _ (c : Cut) (rule : Rule) (stride x y : ℕ) (marks : Side → Bool) where
  -- block k's place, its sides, and its neighbourhood in the plane as it stands
  abbrev pub part_place : ℕ → Place
  part_place k = place_of c.across (place_at stride y x) k

  abbrev pub part_sides : ℕ → Sides
  part_sides k = sides_of c.across marks k

  abbrev pub part_near : ℕ → List ℕ → Near
  part_near k plane = near_block c.side (part_place k) plane (part_sides k) c.wide

  abbrev pub part : ℕ → List ℕ → List ℕ
  part k plane = put_block c.side (part_place k) (rule k (part_sides k) (part_near k plane)) plane

  -- the square: its blocks, one after the other
  abbrev pub all_parts : List ℕ → List ℕ
  all_parts plane = up_to part (blocks c) plane
