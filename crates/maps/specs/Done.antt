-- The done map, and rule 5 over any set of sides that are waited for.
use Rattle.std.specs.Prelude.{Bool, not, ◌&&◌, ◌||◌, List, ℕ, eqb, get_or}
use Rattle.laws.specs.Answer.{Check, ◌unless◌}
use Rattle.maps.specs.Neighbours.{Side, beside}
use Rattle.maps.specs.Neighbours.Side.{A, B, C, D}

-- 1 in the done map means done, any other value undone
abbrev pub is_done : List ℕ → ℕ → Bool
is_done done a = eqb (get_or done a 0) 1

-- the neighbour on a side is done, if it is waited for
abbrev pub settled : (w x y : ℕ) → (Side → Bool) → List ℕ → Side → Bool
settled w x y waited done k = not (waited k) || is_done done (beside w x y k)

unfoldable pub all_settled : (w x y : ℕ) → (Side → Bool) → List ℕ → Bool
all_settled w x y waited done = settled w x y waited done A && settled w x y waited done B && settled w x y waited done C && settled w x y waited done D

-- ---- the rules
abbrev pub undone_rule : List ℕ → ℕ → Check
undone_rule done a = 4 unless not (is_done done a)

abbrev pub ready_rule : (w x y : ℕ) → (Side → Bool) → List ℕ → Check
ready_rule w x y waited done = 5 unless all_settled w x y waited done
