-- How many turns small pictures take, worked out.
use Rattle.std.specs.Prelude.{◌≡◌, ℕ, ◌/◌, ◌%◌, List, [], ◌∷◌, replicate}
use Rattle.laws.specs.Table.{table}
use Rattle.turn_count.specs.Count.{turn_count}
use Rattle.turn_count.specs.Due.{due}

-- when each macroblock of a picture 3 wide and 2 high is due, in raster order
abbrev pub due_of : List ℕ → List ℕ
due_of slices = table 6 (λ a. due 3 slices (a % 3) (a / 3))

pub record CountFigures : Type 0 where
  -- 3 by 2 macroblocks in one slice: 5 turns
  pub one_slice_lem : turn_count 3 2 (replicate 6 0) ≡ 5
  pub one_slice_due : due_of (replicate 6 0) ≡ 1 ∷ 2 ∷ 3 ∷ 3 ∷ 4 ∷ 5 ∷ []
  -- a slice for each row: both rows go side by side
  pub row_slices : turn_count 3 2 (0 ∷ 0 ∷ 0 ∷ 1 ∷ 1 ∷ 1 ∷ []) ≡ 3
  -- the second slice begins in the middle of the first row: its first macroblock waits for its row, and those below it for what they adjoin
  pub mid_row : turn_count 3 2 (0 ∷ 0 ∷ 1 ∷ 1 ∷ 1 ∷ 1 ∷ []) ≡ 5
  pub mid_row_due : due_of (0 ∷ 0 ∷ 1 ∷ 1 ∷ 1 ∷ 1 ∷ []) ≡ 1 ∷ 2 ∷ 3 ∷ 1 ∷ 4 ∷ 5 ∷ []
  -- a single row takes as many turns as it has macroblocks, whatever the slices
  pub one_row : turn_count 2 1 (0 ∷ 1 ∷ []) ≡ 2
  -- a single column goes down one by one, and at once where each macroblock is a slice
  pub one_column : turn_count 1 3 (replicate 3 0) ≡ 3
  pub column_slices : turn_count 1 3 (0 ∷ 1 ∷ 2 ∷ []) ≡ 1
