-- Turns of small pictures, worked out.
use Rattle.std.specs.Prelude.{◌≡◌, ℕ, List, [], ◌∷◌, replicate}
use Rattle.turn_list.specs.Turn.{row_counts, turn}

-- 3 by 2 macroblocks in one slice
abbrev pub one_slice : List ℕ → List ℕ
one_slice done = turn 3 2 (replicate 6 0) done

pub record TurnFigures : Type 0 where
  -- turn by turn from a cleared map: the second row starts two macroblocks behind the first, since its first one waits for the one above and to the right
  pub turn_1 : one_slice (0 ∷ 0 ∷ 0 ∷ 0 ∷ 0 ∷ 0 ∷ []) ≡ 0 ∷ []
  pub turn_2 : one_slice (1 ∷ 0 ∷ 0 ∷ 0 ∷ 0 ∷ 0 ∷ []) ≡ 1 ∷ []
  pub turn_3 : one_slice (1 ∷ 1 ∷ 0 ∷ 0 ∷ 0 ∷ 0 ∷ []) ≡ 2 ∷ 3 ∷ []
  pub turn_4 : one_slice (1 ∷ 1 ∷ 1 ∷ 1 ∷ 0 ∷ 0 ∷ []) ≡ 4 ∷ []
  pub turn_5 : one_slice (1 ∷ 1 ∷ 1 ∷ 1 ∷ 1 ∷ 0 ∷ []) ≡ 5 ∷ []
  pub all_done : one_slice (1 ∷ 1 ∷ 1 ∷ 1 ∷ 1 ∷ 1 ∷ []) ≡ []
  -- a count ends at the first gap, and 2 is not done
  pub counts : row_counts 3 2 (1 ∷ 0 ∷ 1 ∷ 1 ∷ 1 ∷ 2 ∷ []) ≡ 1 ∷ 2 ∷ []
  -- slices share the turn list: the second macroblock waits for no neighbour, since it begins a slice, and is listed only when its row is done before it
  pub shared_before : turn 2 1 (0 ∷ 1 ∷ []) (0 ∷ 0 ∷ []) ≡ 0 ∷ []
  pub shared_after : turn 2 1 (0 ∷ 1 ∷ []) (1 ∷ 0 ∷ []) ≡ 1 ∷ []
  -- a slice for each row: both rows start at once
  pub row_slices : turn 3 2 (0 ∷ 0 ∷ 0 ∷ 1 ∷ 1 ∷ 1 ∷ []) (replicate 6 0) ≡ 0 ∷ 3 ∷ []
