-- The turn list: what may start now, row by row. It sees the maps and no record, so that it waits for every available neighbour.
use Rattle.std.specs.Prelude.{◌≡◌, Bool, true, cond, ◌&&◌, List, [], ◌∷◌, ◌++◌, ℕ, zero, suc, ◌<◌, eqb, ltb, get_or, length, drop}
use Rattle.laws.specs.Answer.{Check, ◌unless◌, answer}
use Rattle.laws.specs.Table.{table, all_below}
use Rattle.order.specs.Order.{Done}
use Rattle.maps.specs.Done.{is_done, all_settled}
use Rattle.maps.specs.Neighbours.{Side, beside, available}
use Rattle.maps.specs.Size.{total, address, size_rule}

-- ---- the row counts
-- how many of 0, 1, .., n - 1 pass from the left without a gap
unfoldable pub leading : ℕ → (ℕ → Bool) → ℕ
leading zero f = 0
leading (suc n) f = cond (f 0) (suc (leading n (λ k. f (suc k)))) 0

-- how many macroblocks of row y are done from the left without a gap: the column of its leftmost undone one, and w where all of the row is done
unfoldable pub gapless : (w : ℕ) → List ℕ → (y : ℕ) → ℕ
gapless w done y = leading w (λ x. is_done done (address w x y))

-- the counts that agree with a done map
abbrev pub row_counts : (w h : ℕ) → List ℕ → List ℕ
row_counts w h done = table h (gapless w done)

-- ---- a turn
-- macroblock (x, y) lies in its row, and all its available neighbours are done
abbrev pub may_start : (w : ℕ) (slices done : List ℕ) (x y : ℕ) → Bool
may_start w slices done x y = ltb x w && all_settled w x y (available w slices x y) done

-- row y of a turn: the address of its leftmost undone macroblock, if it has one and that one may start
unfoldable pub turn_row : (w : ℕ) (slices done : List ℕ) (y : ℕ) → List ℕ
turn_row w slices done y = let x : ℕ = gapless w done y in cond (may_start w slices done x y) (address w x y ∷ []) []

-- a turn: its rows from the top down
unfoldable pub turn : (w h : ℕ) (slices done : List ℕ) → List ℕ
turn w zero slices done = []
turn w (suc h) slices done = turn w h slices done ++ turn_row w slices done h

-- the same in words: macroblock (x, y) is undone, all to the left of it in its row is done, and so is each available neighbour
pub record Startable (w : ℕ) (slices done : List ℕ) (x y : ℕ) : Type 0 where
  pub undone : ¬ Done done (address w x y)
  pub left : (i : ℕ) → i < x → Done done (address w i y)
  pub ready : (k : Side) → available w slices x y k ≡ true → Done done (beside w x y k)

-- ---- the calls
-- a list with another put over its front: the places beyond keep what they held
abbrev pub over : List ℕ → List ℕ → List ℕ
over l list = l ++ drop (length l) list

-- 2: a map has an entry for each macroblock
abbrev pub map_rule : (w h entries : ℕ) → Check
map_rule w h entries = 2 unless eqb entries (total w h)

-- 9: the row counts, or a turn's list, have an entry for each row; and each count agrees with the done map
abbrev pub height_rule : (h entries : ℕ) → Check
height_rule h entries = 9 unless eqb entries h

abbrev pub agree_rule : (w h : ℕ) (done rows : List ℕ) → Check
agree_rule w h done rows = 9 unless all_below h (λ y. eqb (get_or rows y 0) (gapless w done y))

-- what counting the rows answers, by the lengths of the done map and of the row counts
unfoldable pub count_answer : (w h bytes rows : ℕ) → ℕ
count_answer w h bytes rows = answer (size_rule w h ∷ map_rule w h bytes ∷ height_rule h rows ∷ [])

-- the rules of a turn before the row counts and the list are looked at
abbrev pub map_rules : (w h : ℕ) (slices done : List ℕ) → List Check
map_rules w h slices done = size_rule w h ∷ map_rule w h (length done) ∷ map_rule w h (length slices) ∷ []

-- what a turn answers, for a list of so many places
unfoldable pub turn_answer : (w h : ℕ) (slices done rows : List ℕ) (places : ℕ) → ℕ
turn_answer w h slices done rows places =
    answer (map_rules w h slices done ++ (height_rule h (length rows) ∷ height_rule h places ∷ agree_rule w h done rows ∷ []))
