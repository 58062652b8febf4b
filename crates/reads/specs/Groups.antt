-- The samples beside a block in four groups, and the groups that each mode of clause 8.3 reads where some of them are marked as available.
use Rattle.std.specs.Prelude.{Bool, false, cond, not, ◌&&◌, ◌||◌, ℕ, ◌+◌, ◌-◌, eqb, leb}
use Rattle.basics.specs.Marks.{permitted_nxn, permitted16x16, permitted_chroma}
use Rattle.basics.specs.Near.{Near}
use Rattle.basics.specs.declared.marks.Sides.{Sides}

-- of a block of side n: the n samples above it, the n left of it, the one at its corner, and the n above and to the right
pub data Group : Type 0 where
  above left corner above_right : Group

abbrev pub group_size : ℕ → Group → ℕ
group_size n above = n
group_size n left = n
group_size n corner = 1
group_size n above_right = n

-- a set of groups, by four marks
abbrev pub groups_of : Sides → Group → Bool
groups_of s above = s.above
groups_of s left = s.left
groups_of s corner = s.corner
groups_of s above_right = s.above_right

abbrev pub marked : Bool → Bool → Bool → Bool → Group → Bool
marked a l c r = groups_of (record { above = a; left = l; corner = c; above_right = r })

-- and as one number: 1 above, 2 left, 4 corner, 8 above-right, added up
abbrev pub group_set : (Group → Bool) → ℕ
group_set set = cond (set above) 1 0 + cond (set left) 2 0 + cond (set corner) 4 0 + cond (set above_right) 8 0

-- the samples of each group, counted from the corner on
abbrev pub Samples : Type 0
Samples = Group → ℕ → ℕ

-- 8.3.1.2, 8.3.2.2: the neighbourhood that a block of side n is predicted from. It goes on above and to the right where that is available, else the last
-- sample above is repeated
unfoldable pub near_by : ℕ → Bool → Samples → Near
near_by n available s i j =
    cond (eqb j 0)
    (cond (eqb i 0) (s corner 0) (cond (leb i n) (s above (i - 1)) (cond available (s above_right (i - n - 1)) (s above (n - 1)))))
    (s left (j - 1))

-- ---- the groups that a mode's formula names
-- 8.3.1.2.1 to 8.3.1.2.9, 8.3.2.2.2 to 8.3.2.2.10
abbrev pub named_nxn : ℕ → Group → Bool
named_nxn m above = not (eqb m 1 || eqb m 8)
named_nxn m left = not (eqb m 0 || eqb m 3 || eqb m 7)
named_nxn m corner = eqb m 4 || eqb m 5 || eqb m 6
named_nxn m above_right = eqb m 3 || eqb m 7

-- 8.3.3.1 to 8.3.3.4
abbrev pub named16x16 : ℕ → Group → Bool
named16x16 m above = not (eqb m 1)
named16x16 m left = not (eqb m 0)
named16x16 m corner = eqb m 3
named16x16 m above_right = false

-- 8.3.4.1 to 8.3.4.4
abbrev pub named_chroma : ℕ → Group → Bool
named_chroma m above = not (eqb m 1)
named_chroma m left = not (eqb m 2)
named_chroma m corner = eqb m 3
named_chroma m above_right = false

-- ---- the groups that are read: those that the formula of a permitted mode names and that are marked. A mode that is not permitted reads none
abbrev pub reads4x4 : (Group → Bool) → ℕ → Group → Bool
reads4x4 marks m g = permitted_nxn (marks above) (marks left) (marks corner) m && named_nxn m g && marks g

-- 8.3.2.2.1: of an 8x8 block the formula names filtered samples. The filter takes the corner to the first sample of each side, and to the last sample
-- above the next one on its right; of the modes that name samples above, mode 6 alone does not name the last
abbrev pub reads8x8 : (Group → Bool) → ℕ → Group → Bool
reads8x8 marks m above = reads4x4 marks m above
reads8x8 marks m left = reads4x4 marks m left
reads8x8 marks m corner = (reads4x4 marks m above || reads4x4 marks m left) && marks corner
reads8x8 marks m above_right = reads4x4 marks m above && not (eqb m 6) && marks above_right

abbrev pub reads16x16 : (Group → Bool) → ℕ → Group → Bool
reads16x16 marks m g = permitted16x16 (marks above) (marks left) (marks corner) m && named16x16 m g && marks g

abbrev pub reads_chroma : (Group → Bool) → ℕ → Group → Bool
reads_chroma marks m g = permitted_chroma (marks above) (marks left) (marks corner) m && named_chroma m g && marks g
