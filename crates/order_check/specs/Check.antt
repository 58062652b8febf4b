-- Checking another scheduler's order: a list of addresses is to name every macroblock once, each after all its available neighbours. The check sees the slice
-- map and no record, so that it asks for every available neighbour.
use Rattle.std.specs.Prelude.{Bool, not, cond, ◌&&◌, ◌||◌, List, [], ◌∷◌, ℕ, ◌/◌, ◌%◌, eqb, ltb, get_or, length}
use Rattle.laws.specs.Answer.{Check, ◌unless◌, answer}
use Rattle.laws.specs.Table.{all_below, some_below}
use Rattle.maps.specs.Neighbours.{Side, beside, available}
use Rattle.maps.specs.Neighbours.Side.{A, B, C, D}
use Rattle.maps.specs.Size.{total, size_rule}
use Rattle.turn_list.specs.Turn.{leading, map_rule}

-- macroblock a stands at one of the first i places of the list
unfoldable pub named_before : (order : List ℕ) (i a : ℕ) → Bool
named_before order i a = some_below i (λ j. eqb (get_or order j 0) a)

-- and so does its neighbour on a side, if that is available
abbrev pub beside_before : (w : ℕ) (slices order : List ℕ) (i a : ℕ) → Side → Bool
beside_before w slices order i a k = not (available w slices (a % w) (a / w) k) || named_before order i (beside w (a % w) (a / w) k)

abbrev pub all_before : (w : ℕ) (slices order : List ℕ) (i a : ℕ) → Bool
all_before w slices order i a =
    beside_before w slices order i a A && beside_before w slices order i a B && beside_before w slices order i a C && beside_before w slices order i a D

-- the entry at place i is in place: its macroblock stands at no place before, and each of its available neighbours does
unfoldable pub entry_ok : (w : ℕ) (slices order : List ℕ) (i : ℕ) → Bool
entry_ok w slices order i = let a : ℕ = get_or order i 0 in not (named_before order i a) && all_before w slices order i a

-- the place of the first entry that is out of place, and the list's length where none is
unfoldable pub out_of_place : (w : ℕ) (slices order : List ℕ) → ℕ
out_of_place w slices order = leading (length order) (entry_ok w slices order)

-- yes, all are in place, is 1, and no is 0
unfoldable pub verdict_of : (w : ℕ) (slices order : List ℕ) → ℕ
verdict_of w slices order = cond (all_below (length order) (entry_ok w slices order)) 1 0

-- ---- the rules
-- 13: the list has an entry for each macroblock, and each entry is the address of one
abbrev pub full_rule : (w h : ℕ) → List ℕ → Check
full_rule w h order = 13 unless eqb (length order) (total w h)

abbrev pub inside_rule : (w h : ℕ) → List ℕ → Check
inside_rule w h order = 13 unless all_below (length order) (λ i. ltb (get_or order i 0) (total w h))

-- what a check answers, for a slice map of so many entries
unfoldable pub order_answer : (w h entries : ℕ) → List ℕ → ℕ
order_answer w h entries order = answer (size_rule w h ∷ map_rule w h entries ∷ full_rule w h order ∷ inside_rule w h order ∷ [])
