-- What a check says of the orders of small pictures, worked out.
use Rattle.std.specs.Prelude.{◌≡◌, ℕ, List, [], ◌∷◌, replicate}
use Rattle.order_check.specs.Check.{out_of_place, verdict_of, order_answer}

-- the orders of a picture 2 wide and 2 high in one slice
abbrev pub square : List ℕ → ℕ
square order = out_of_place 2 (replicate 4 0) order

pub record OrderFigures : Type 0 where
  -- raster order is in place to its end
  pub raster_yes : verdict_of 2 (replicate 4 0) (0 ∷ 1 ∷ 2 ∷ 3 ∷ []) ≡ 1
  pub raster_end : square (0 ∷ 1 ∷ 2 ∷ 3 ∷ []) ≡ 4
  -- each of A, B, C and D is asked for: 1 comes before its A, 2 before its B, 2 before its C, and 3 before all
  pub before_a : square (1 ∷ 0 ∷ 2 ∷ 3 ∷ []) ≡ 0
  pub before_b : square (2 ∷ 0 ∷ 1 ∷ 3 ∷ []) ≡ 0
  pub before_c : square (0 ∷ 2 ∷ 1 ∷ 3 ∷ []) ≡ 1
  pub before_c_no : verdict_of 2 (replicate 4 0) (0 ∷ 2 ∷ 1 ∷ 3 ∷ []) ≡ 0
  -- D alone: the slices are exchanged like the squares of a chessboard
  pub before_d : out_of_place 2 (0 ∷ 1 ∷ 1 ∷ 0 ∷ []) (1 ∷ 2 ∷ 3 ∷ 0 ∷ []) ≡ 2
  pub after_d : out_of_place 2 (0 ∷ 1 ∷ 1 ∷ 0 ∷ []) (1 ∷ 2 ∷ 0 ∷ 3 ∷ []) ≡ 4
  -- one macroblock twice, and one left out
  pub doubled : square (0 ∷ 1 ∷ 2 ∷ 2 ∷ []) ≡ 3
  -- a slice for each row: the second row may come first; a slice for each macroblock: any order
  pub row_slices : verdict_of 2 (0 ∷ 0 ∷ 1 ∷ 1 ∷ []) (2 ∷ 3 ∷ 0 ∷ 1 ∷ []) ≡ 1
  pub own_slices : verdict_of 2 (0 ∷ 1 ∷ 2 ∷ 3 ∷ []) (3 ∷ 2 ∷ 1 ∷ 0 ∷ []) ≡ 1
  -- 3 by 2 by its diagonals: each from the top down, and from the bottom up, where macroblock 3 comes before its C
  pub diagonals_down : verdict_of 3 (replicate 6 0) (0 ∷ 1 ∷ 3 ∷ 2 ∷ 4 ∷ 5 ∷ []) ≡ 1
  pub diagonals_up : out_of_place 3 (replicate 6 0) (0 ∷ 3 ∷ 1 ∷ 4 ∷ 2 ∷ 5 ∷ []) ≡ 1
  -- ---- the rules
  pub taken : order_answer 2 2 4 (0 ∷ 1 ∷ 2 ∷ 3 ∷ []) ≡ 0
  -- an address equal to W * H, and lists of other lengths
  pub outside : order_answer 2 2 4 (0 ∷ 1 ∷ 2 ∷ 4 ∷ []) ≡ 13
  pub one_short : order_answer 2 2 4 (0 ∷ 1 ∷ 2 ∷ []) ≡ 13
  pub one_more : order_answer 2 2 4 (0 ∷ 1 ∷ 2 ∷ 3 ∷ 3 ∷ []) ≡ 13
  -- the size and the slice map come first
  pub map_first : order_answer 2 2 3 (0 ∷ 1 ∷ 2 ∷ 4 ∷ []) ≡ 2
  pub size_first : order_answer 0 2 3 (0 ∷ 1 ∷ 2 ∷ 4 ∷ []) ≡ 1
