-- Who holds what a block reads, by where the block stands in its macroblock.
use Rattle.std.specs.Prelude.{Bool, not, ◌&&◌, ◌||◌}
use Rattle.maps.specs.Neighbours.{Side}
use Rattle.maps.specs.Neighbours.Side.{A, B, C, D}
use Rattle.reads.specs.Groups.{Group}
use Rattle.reads.specs.Groups.Group.{above, left, corner, above_right}

-- in the first column, in the first row and in the last column of blocks, or not
abbrev pub holders_at : (first_column first_row last_column : Bool) → (Group → Bool) → Side → Bool
holders_at u v r read A = u && (read left || (not v && read corner))
holders_at u v r read B = v && (read above || ((not u && read corner) || (not r && read above_right)))
holders_at u v r read C = (v && r) && read above_right
holders_at u v r read D = (v && u) && read corner
