-- The macroblock call: what it is given, what it is lent, its answer, and what an accepted one leaves.
use Rattle.std.specs.Prelude.{◌≡◌, Bool, List, [], ◌∷◌, ◌++◌, ℕ, length, set}
use Rattle.laws.specs.Answer.{Check, ◌unless◌, answer, written}
use Rattle.maps.specs.Done.{undone_rule, ready_rule}
use Rattle.maps.specs.Neighbours.{Side, available}
use Rattle.maps.specs.Progress.{accepted_of}
use Rattle.maps.specs.Size.{total, address, size_rule, place_rule}
use Rattle.maps.specs.declared.progress.Progress.{Progress}
use Rattle.maps.specs.declared.size.Spot.{Spot}
use Rattle.macroblock.specs.Kinds.{luma_square, cb_square, cr_square}
use Rattle.macroblock.specs.Rules.{list_rule, known_rule, permitted_rule, numbers_rule}
use Rattle.macroblock.specs.declared.Record.{Record}
use Rattle.macroblock.specs.declared.Strides.{Strides}
use Rattle.waits.specs.Waits.{waits}
use Rattle.calls.specs.Planes.{Plane, three, room_ok}
use Rattle.calls.specs.Planes.Plane.{luma, cb, cr}

-- what a call is given: the picture's size, a place, the strides, the slice map and a record
pub record Call : Type 0 where
  pub width : ℕ
  pub height : ℕ
  pub x : ℕ
  pub y : ℕ
  pub stride : Plane → ℕ
  pub slices : List ℕ
  pub mb : Record

abbrev pub call : Spot → Strides → List ℕ → Record → Call
call p s slices mb =
    record { width = p.w; height = p.h; x = p.x; y = p.y; stride = three s.luma s.cb s.cr; slices = slices; mb = mb }

-- what it is lent, and may change
pub record Lent : Type 0 where
  pub planes : Plane → List ℕ
  pub done : List ℕ
  pub progress : Progress

abbrev pub lent : (luma cb cr done : List ℕ) → Progress → Lent
lent l b r d p = record { planes = three l b r; done = d; progress = p }

-- the macroblock's address, and which of its neighbours are available
abbrev pub here : Call → ℕ
here c = address c.width c.x c.y

abbrev pub marks : Call → Side → Bool
marks c = available c.width c.slices c.x c.y

-- the neighbours that it waits for: those that hold what its record reads
abbrev pub waits_for : Call → Side → Bool
waits_for c = waits (marks c) c.mb

-- ---- the table of refusals
-- 2: what is lent is as large as the size and the strides ask
abbrev pub lent_rule : Call → Lent → Check
lent_rule c s = 2 unless room_ok c.width c.height c.stride (λ p. length (s.planes p)) (length s.done) (length c.slices) s.progress.count

-- 5: the neighbours that it waits for are done
abbrev pub neighbours_rule : Call → Lent → Check
neighbours_rule c s = ready_rule c.width c.x c.y (waits_for c) s.done

unfoldable pub rules : Call → Lent → List Check
rules c s =
    size_rule c.width c.height
    ∷ lent_rule c s
    ∷ list_rule c.mb
    ∷ place_rule c.width c.height c.x c.y
    ∷ undone_rule s.done (here c)
    ∷ known_rule c.mb
    ∷ permitted_rule (marks c) c.mb
    ∷ neighbours_rule c s
    ∷ numbers_rule c.mb
    ∷ []

abbrev pub answer_to : Call → Lent → ℕ
answer_to c s = answer (rules c s)

-- the rules before the record's modes are looked at
unfoldable pub first_rules : Call → Lent → List Check
first_rules c s =
    size_rule c.width c.height
    ∷ lent_rule c s
    ∷ list_rule c.mb
    ∷ place_rule c.width c.height c.x c.y
    ∷ undone_rule s.done (here c)
    ∷ []

-- the same rules where `lists` says whether the lists that come with the call are as long as they should be
abbrev pub open_rules : Call → Lent → (lists : Bool) → List Check
open_rules c s lists =
    size_rule c.width c.height
    ∷ lent_rule c s
    ∷ 2 unless lists
    ∷ place_rule c.width c.height c.x c.y
    ∷ undone_rule s.done (here c)
    ∷ []

abbrev pub first : Call → Lent → ℕ
first c s = answer (first_rules c s)

-- those before the neighbours are looked at
abbrev pub earlier : Call → Lent → ℕ
earlier c s = answer (first_rules c s ++ (known_rule c.mb ∷ permitted_rule (marks c) c.mb ∷ []))

-- a record is acceptable at its place where the rules that speak of it hold
unfoldable pub record_rules : Call → List Check
record_rules c = list_rule c.mb ∷ known_rule c.mb ∷ permitted_rule (marks c) c.mb ∷ numbers_rule c.mb ∷ []

abbrev pub Acceptable : Call → Type 0
Acceptable c = answer (record_rules c) ≡ 0

-- ---- what a call leaves
-- a plane with the macroblock rebuilt in it
abbrev pub square_in : Call → Plane → List ℕ → List ℕ
square_in c luma plane = luma_square c.x c.y (marks c) c.mb (c.stride luma) plane
square_in c cb plane = cb_square c.x c.y (marks c) c.mb (c.stride cb) plane
square_in c cr plane = cr_square c.x c.y (marks c) c.mb (c.stride cr) plane

-- all that an accepted call leaves
abbrev pub rebuilt : Call → Lent → Lent
rebuilt c s = record {
  planes = λ p. square_in c p (s.planes p);
  done = set s.done (here c) 1;
  progress = accepted_of s.progress (here c) (total c.width c.height);
}

-- the call's promise: its answer r, and all that it was lent, before it s and after it t. A refused call leaves everything as it was
pub record Rebuilds (c : Call) (s : Lent) (r : ℕ) (t : Lent) : Type 0 where
  pub answers : r ≡ answer_to c s
  pub leaves : t ≡ written r s (rebuilt c s)
