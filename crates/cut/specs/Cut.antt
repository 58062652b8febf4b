-- How a macroblock's square in one plane is cut into blocks, in which order these come, and who holds the samples beside each: clauses 6.4.3, 6.4.5,
-- 6.4.7, 6.4.9, 6.4.11 and 6.4.12. One account of 4x4, 8x8, 16x16 and chroma blocks.
use Rattle.std.specs.Prelude.{◌≡◌, refl, Bool, true, false, cond, ◌&&◌, List, [], ◌∷◌, ℕ, zero, suc, ◌+◌, ◌*◌, ◌-◌, ◌/◌, ◌%◌, min, eqb, ltb, leb}
use Rattle.laws.specs.Table.{table}
use Rattle.basics.specs.Nnz.{blk_idx}
use Rattle.maps.specs.Neighbours.{Side}
use Rattle.maps.specs.Neighbours.Side.{A, B, C, D}
use Rattle.basics.specs.declared.marks.Sides.{Sides}

-- blocks of `side` by `side` samples, `across` of them in a row and in a column of the square; a block's rule reads `wide` samples above it
pub record Cut : Type 0 where
  pub side : ℕ
  pub across : ℕ
  pub wide : ℕ

abbrev pub blocks : Cut → ℕ
blocks c = c.across * c.across

-- sixteen 4x4 blocks, four 8x8 blocks, and a square that is one block: 16x16 luma, 8x8 chroma
abbrev pub four : Cut
four = record { side = 4; across = 4; wide = 8 }

abbrev pub eight : Cut
eight = record { side = 8; across = 2; wide = 16 }

abbrev pub whole : ℕ → Cut
whole q = record { side = q; across = 1; wide = q }

-- the luma of a kind, and how many modes it uses: one for each block
abbrev pub cut_for : ℕ → Cut
cut_for zero = four
cut_for (suc zero) = eight
cut_for (suc (suc _)) = whole 16

abbrev pub used : ℕ → ℕ
used zero = 16
used (suc zero) = 4
used (suc (suc _)) = 1

-- 6.4.3: block k stands in column scan_x k and row scan_y k of blocks, and blk_idx (basics/specs/Nnz) is its number from there: each undoes the other
-- (inner/Blocks Scan, shown in proofs/Scan). Four blocks are numbered by 6.4.5 and 6.4.7, row by row, which is the same
unfoldable pub scan_x : ℕ → ℕ
scan_x k = k / 4 % 2 * 2 + k % 4 % 2

unfoldable pub scan_y : ℕ → ℕ
scan_y k = k / 4 / 2 * 2 + k % 4 / 2

-- 6.4.3, Figure 6-10: the column and the row of each of the sixteen blocks, as the figure shows them (the Rust's LUMA_4X4_SCAN_XY as two lists)
abbrev pub scan_columns : List ℕ
scan_columns = 0 ∷ 1 ∷ 0 ∷ 1 ∷ 2 ∷ 3 ∷ 2 ∷ 3 ∷ 0 ∷ 1 ∷ 0 ∷ 1 ∷ 2 ∷ 3 ∷ 2 ∷ 3 ∷ []

abbrev pub scan_rows : List ℕ
scan_rows = 0 ∷ 0 ∷ 1 ∷ 1 ∷ 0 ∷ 0 ∷ 1 ∷ 1 ∷ 2 ∷ 2 ∷ 3 ∷ 3 ∷ 2 ∷ 2 ∷ 3 ∷ 3 ∷ []

pub scan_figure : (scan_columns ≡ table 16 scan_x) × (scan_rows ≡ table 16 scan_y)
unfolding table scan_x scan_y
scan_figure = (refl, refl)

-- who holds the samples on a side of a block: an earlier block of this macroblock, a neighbour macroblock, or nobody
pub data Holder : Type 0 where
  own : Holder
  other : Side → Holder
  nobody : Holder

-- 6.4.12, Table 6-3, for m blocks across: the holder of the block in column i and row j, where both are one more than they are in the macroblock, so that
-- -1 is 0. A block of this macroblock holds its samples already if it comes before block k
abbrev pub holder_at : ℕ → ℕ → ℕ → ℕ → Holder
holder_at m k i j =
    cond (eqb j 0)
    (cond (eqb i 0) (other D) (cond (leb i m) (other B) (other C)))
    (cond (eqb i 0) (other A) (cond (leb i m && ltb (blk_idx (i - 1) (j - 1)) k) own nobody))

-- 6.4.11: the block on each side of the one in column u and row v
abbrev pub next_x : ℕ → Side → ℕ
next_x u A = u
next_x u B = u + 1
next_x u C = u + 2
next_x u D = u

abbrev pub next_y : ℕ → Side → ℕ
next_y v A = v + 1
next_y v B = v
next_y v C = v
next_y v D = v

-- who holds the samples on a side of block k, with m blocks across
abbrev pub holder_on : ℕ → ℕ → Side → Holder
holder_on m k d = holder_at m k (next_x (scan_x k) d) (next_y (scan_y k) d)

abbrev pub held_by : (Side → Bool) → Holder → Bool
held_by marks own = true
held_by marks (other d) = marks d
held_by marks nobody = false

-- are they there?
unfoldable pub is_there : ℕ → (Side → Bool) → ℕ → Side → Bool
is_there m marks k d = held_by marks (holder_on m k d)

-- 6.4.11: the sides of block k, and those of a square that is one block
abbrev pub sides_of : ℕ → (Side → Bool) → ℕ → Sides
sides_of m marks k = record { above = is_there m marks k B; left = is_there m marks k A; corner = is_there m marks k D; above_right = is_there m marks k C }

abbrev pub no_sides : Sides
no_sides = record { above = false; left = false; corner = false; above_right = false }

abbrev pub square_sides : (Side → Bool) → Sides
square_sides marks = record { above = marks B; left = marks A; corner = marks D; above_right = marks C }

-- an answer for every k and m: above, left and corner do not hang on how many blocks are across, and more than four across count as four. Where block k
-- stands in one of m columns, at most four, these are its sides (shown in proofs/Sides)
abbrev pub sides_in : ℕ → (Side → Bool) → ℕ → Sides
sides_in m marks k =
    record { above = is_there 4 marks k B; left = is_there 4 marks k A; corner = is_there 4 marks k D; above_right = is_there (min m 4) marks k C }
