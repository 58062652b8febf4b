-- A macroblock rebuilt beside its planes.
use Rattle.std.specs.Prelude.{Bool, List, ℕ, ◌+◌, ◌*◌, get_or}
use Rattle.maps.specs.Neighbours.{Side}
use Rattle.macroblock.specs.Kinds.{luma_square, cb_square, cr_square}
use Rattle.macroblock.specs.declared.Record.{Record}
use Rattle.macroblock.specs.declared.Strides.{Strides}
use Rattle.moved.specs.Moved.{Site}
use Rattle.calls.specs.Planes.{three, side}
use Rattle.halves.specs.Halves.{block_by}

-- a small plane is three squares wide and two high, and the macroblock stands in the middle below
abbrev pub small_site : ℕ → List ℕ → Site
small_site q small = record { stride = 3 * q; x = 1; y = 1; plane = small }

-- the block of macroblock (x, y), rebuilt in its planes
abbrev pub block_at : Strides → (x y : ℕ) → (Side → Bool) → Record → (luma cb cr : List ℕ) → List ℕ
block_at s x y marks r luma cb cr =
    block_by (λ p i j. get_or
    (three (luma_square x y marks r s.luma luma) (cb_square x y marks r s.cb cb) (cr_square x y marks r s.cr cr) p)
    ((y * side p + j) * three s.luma s.cb s.cr p + (x * side p + i)) 0)
