-- What modes read and what records wait for, in a few cases that the rules name.
use Rattle.std.specs.Prelude.{◌≡◌, ℕ, Bool, true, false, List, [], ◌∷◌, replicate, pos, slice_set}
use Rattle.maps.specs.Neighbours.{Side}
use Rattle.maps.specs.Neighbours.Side.{A, B, C, D}
use Rattle.macroblock.specs.Kinds.{record_of}
use Rattle.reads.specs.Groups.{Group, marked, group_set, reads4x4, reads8x8, reads16x16}
use Rattle.reads.specs.Groups.Group.{above, above_right}
use Rattle.waits.specs.Waits.{waits}

-- the neighbours A, B, C and D that a record of these parts waits for where all four are available
abbrev pub waited : ℕ → List ℕ → ℕ → List Bool
waited kind modes chroma = w A ∷ w B ∷ w C ∷ w D ∷ []
  where
    w : Side → Bool
    w = waits (λ _. true) (record_of kind modes chroma (replicate 384 (pos 0)))

-- sixteen modes 0, and with mode m in block k
abbrev pub vertical : List ℕ
vertical = replicate 16 0

abbrev pub but : ℕ → ℕ → List ℕ
but k m = slice_set vertical k m

pub record ReadFigures : Type 0 where
  -- 8x8 mode 6 never reads above-right, and 8x8 mode 0 does where it is there
  pub mode_6 : (marks : Group → Bool) → reads8x8 marks 6 above_right ≡ false
  pub mode_0 : (marks : Group → Bool) → marks above ≡ true → marks above_right ≡ true → reads8x8 marks 0 above_right ≡ true
  -- with all four marked, as numbers: 4x4 vertical reads above, 8x8 vertical by its filter the corner and above-right too, 16x16 plane all but above-right
  pub sets : group_set (reads4x4 (marked true true true true) 0) ∷ group_set (reads8x8 (marked true true true true) 0)
      ∷ group_set (reads8x8 (marked true true true true) 6) ∷ group_set (reads16x16 (marked true true true true) 3) ∷ []
      ≡ 1 ∷ 13 ∷ 7 ∷ 7 ∷ []
  -- 16x16 vertical with vertical chroma waits for B alone, and with DC of both for A and B
  pub whole : waited 2 vertical 2 ≡ false ∷ true ∷ false ∷ false ∷ []
  pub whole_dc : waited 2 (but 0 2) 0 ≡ true ∷ true ∷ false ∷ false ∷ []
  -- sixteen vertical 4x4 blocks wait for B, and with mode 3 in block 5 for C too; in block 3, whose above-right is never there, it adds nothing
  pub fours : waited 0 vertical 2 ≡ false ∷ true ∷ false ∷ false ∷ []
  pub block_5 : waited 0 (but 5 3) 2 ≡ false ∷ true ∷ true ∷ false ∷ []
  pub block_3 : waited 0 (but 3 3) 2 ≡ false ∷ true ∷ false ∷ false ∷ []
  -- four vertical 8x8 blocks wait for all, for the corners of blocks 0 and 2 lie in D and A; with mode 6 in block 1 they do not wait for C
  pub eights : waited 1 vertical 2 ≡ true ∷ true ∷ true ∷ true ∷ []
  pub block_1 : waited 1 (but 1 6) 2 ≡ true ∷ true ∷ false ∷ true ∷ []
