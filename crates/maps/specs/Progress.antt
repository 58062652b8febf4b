-- The progress record, and starting a picture.
use Rattle.std.specs.Prelude.{List, [], ◌∷◌, ℕ, ◌+◌, min, eqb, get_or}
use Rattle.laws.specs.Answer.{◌unless◌, answer}
use Rattle.maps.specs.Size.{total, size_rule}
use Rattle.maps.specs.declared.progress.Progress.{Progress}

-- an accepted call sets the address, and the count to one more, but never above W * H
abbrev pub accepted_of : Progress → ℕ → ℕ → Progress
accepted_of p a most = record { count = min (p.count + 1) most; last = a }

-- a started picture's
abbrev pub begun : Progress
begun = record { count = 0; last = 0 }

-- the record as a list of its two numbers
abbrev pub progress_of : List ℕ → Progress
progress_of l = record { count = get_or l 0 0; last = get_or l 1 0 }

-- what starting a picture answers, by its size and the done map's length
unfoldable pub start_answer : (w h bytes : ℕ) → ℕ
start_answer w h bytes = answer (size_rule w h ∷ 2 unless eqb bytes (total w h) ∷ [])
