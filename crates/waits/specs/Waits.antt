-- Which neighbour macroblocks a record waits for: those that hold samples which one of its blocks reads.
use Rattle.std.specs.Prelude.{Bool, true, false, ◌&&◌, ◌||◌, ℕ, zero, suc, ◌*◌, get_or}
use Rattle.laws.specs.Table.{some_below}
use Rattle.maps.specs.Neighbours.{Side, marks_of}
use Rattle.maps.specs.Neighbours.Side.{A, B, C, D}
use Rattle.cut.specs.Cut.{cut_for, Holder, holder_on, sides_of}
use Rattle.cut.specs.Cut.Holder.{own, other, nobody}
use Rattle.macroblock.specs.declared.Record.{Record}
use Rattle.reads.specs.Exactly.{Predictor, luma4x4, luma8x8, luma16x16, chroma8x8}
use Rattle.reads.specs.Groups.{Group, groups_of}
use Rattle.reads.specs.Groups.Group.{above, left, corner, above_right}

-- ---- a group of samples beside block k, of m across
-- 6.4.11: on which side of the block it lies
abbrev pub side_of : Group → Side
side_of above = B
side_of left = A
side_of corner = D
side_of above_right = C

-- 6.4.12: who holds it
abbrev pub holder_of : ℕ → ℕ → Group → Holder
holder_of m k g = holder_on m k (side_of g)

-- d and no other macroblock
abbrev pub only : Side → Side → Bool
only A = marks_of (record { a = true; b = false; c = false; d = false })
only B = marks_of (record { a = false; b = true; c = false; d = false })
only C = marks_of (record { a = false; b = false; c = true; d = false })
only D = marks_of (record { a = false; b = false; c = false; d = true })

-- whether it is neighbour d that holds it
abbrev pub is_holder : Side → Holder → Bool
is_holder d own = false
is_holder d (other e) = only d e
is_holder d nobody = false

-- whether neighbour d holds one of the groups of a set
abbrev pub some_group : (Group → Bool) → Bool
some_group f = f above || f left || f corner || f above_right

abbrev pub holds_one : ℕ → ℕ → (Group → Bool) → Side → Bool
holds_one m k set d = some_group (λ g. set g && is_holder d (holder_of m k g))

-- ---- what blocks read
module _ (P : Predictor) (m : ℕ) (marks : Side → Bool) (modes : ℕ → ℕ) (d : Side) where
  -- block k reads samples that neighbour d holds, and so does some block of the square
  abbrev pub block_reads : ℕ → Bool
  block_reads k = holds_one m k (P.reads (groups_of (sides_of m marks k)) (modes k)) d

  abbrev pub square_reads : Bool
  square_reads = some_below (m * m) block_reads

-- ---- what a record waits for
abbrev pub predictor_for : ℕ → Predictor
predictor_for zero = luma4x4
predictor_for (suc zero) = luma8x8
predictor_for (suc (suc _)) = luma16x16

-- the neighbours that hold what one of its luma blocks reads, or its chroma blocks
unfoldable pub waits : (Side → Bool) → Record → Side → Bool
waits marks r d =
    square_reads (predictor_for r.kind) (cut_for r.kind).across marks (λ k. get_or r.modes k 0) d
    || square_reads chroma8x8 1 marks (λ _. r.chroma_mode) d
