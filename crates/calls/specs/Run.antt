-- What demand 3 speaks of: a picture and its records, decoding by the standard, and runs of calls in any order.
use Rattle.std.specs.Prelude.{◌≡◌, true, List, [], ◌∷◌, map, ℕ, ◌/◌, ◌%◌, ◌<◌, T, get_or, length, replicate}
use Rattle.laws.specs.Answer.{written}
use Rattle.laws.specs.Steps.{up_to}
use Rattle.order.specs.Driver.{Driver, after, play}
use Rattle.order.specs.Order.{Done, undone_from}
use Rattle.maps.specs.Neighbours.{Side, beside}
use Rattle.maps.specs.Progress.{begun, start_answer}
use Rattle.maps.specs.Size.{total}
use Rattle.macroblock.specs.Square.{in_block}
use Rattle.macroblock.specs.declared.Record.{Record}
use Rattle.calls.specs.Planes.{Plane, side, plane_ok}
use Rattle.calls.specs.Rebuild.{Call, Lent, here, waits_for, Acceptable, answer_to, square_in, rebuilt}

-- ---- what is fixed: a picture's size, its strides, its slice map, and a record for each macroblock
pub record Picture : Type 0 where
  pub width : ℕ
  pub height : ℕ
  pub stride : Plane → ℕ
  pub slices : List ℕ
  pub records : ℕ → Record

abbrev pub total_of : Picture → ℕ
total_of g = total g.width g.height

-- macroblock a, offered with its own record
abbrev pub offer : Picture → ℕ → Call
offer g a = record { width = g.width; height = g.height; x = a % g.width; y = a / g.width; stride = g.stride; slices = g.slices; mb = g.records a }

-- each macroblock's own record is acceptable, and so is that of each one that a map leaves undone
abbrev pub AllAcceptable : Picture → Type 0
AllAcceptable g = (a : ℕ) → a < total_of g → Acceptable (offer g a)

abbrev pub RestAcceptable : Picture → List ℕ → Type 0
RestAcceptable g done = (a : ℕ) → a < total_of g → ¬ Done done a → Acceptable (offer g a)

-- macroblock b is one that a call waits for, and one that macroblock a waits for
abbrev pub Waits : Call → ℕ → Type 0
Waits c b = (k : Side) × (waits_for c k ≡ true) × (beside c.width c.x c.y k ≡ b)

abbrev pub Awaits : Picture → ℕ → ℕ → Type 0
Awaits g a b = Waits (offer g a) b

-- what is lent is as large as the picture asks, and starting answers 0
pub record Lends (g : Picture) (s : Lent) : Type 0 where
  pub starts : start_answer g.width g.height (length s.done) ≡ 0
  pub planes : (p : Plane) → plane_ok (side p) g.width g.height (g.stride p) (length (s.planes p)) ≡ true
  pub slices : length g.slices ≡ total_of g

-- ---- decoding by the standard: the macroblocks in raster order, each from its record and the planes as they stand. It knows no map and no refusal
abbrev pub Planes : Type 0
Planes = Plane → List ℕ

abbrev pub decoded : Picture → Planes → Planes
decoded g planes = up_to (λ a now p. square_in (offer g a) p (now p)) (total_of g) planes

-- a location is a plane and an index; those of macroblock a, and those of the picture: padding is every other one
abbrev pub Location : Type 0
Location = Plane × ℕ

abbrev pub sample_at : Planes → Location → ℕ
sample_at planes i = get_or (planes i.0) i.1 0

abbrev pub Region : Picture → ℕ → Location → Type 0
Region g a i = T (in_block (side i.0) (g.stride i.0) (a / g.width) (a % g.width) i.1)

abbrev pub InPicture : Picture → Location → Type 0
InPicture g i = (a : ℕ) × (a < total_of g) × Region g a i

-- ---- a run: the picture is started, and then calls come, with any arguments at all; what each answers and leaves is what `rebuild` promises
abbrev pub driver : Driver Lent Call
driver = record { answer = answer_to; taken = rebuilt }

-- what `start` promises
abbrev pub started_at : (w h : ℕ) → Lent → Lent
started_at w h s =
    written (start_answer w h (length s.done)) s (record { planes = s.planes; done = replicate (length s.done) 0; progress = begun })

abbrev pub started : Picture → Lent → Lent
started g s = started_at g.width g.height s

abbrev pub run : Picture → List Call → Lent → Lent
run g cs s = play driver cs (started g s)

-- each call that is accepted carries what is fixed, and its macroblock's own record
abbrev pub Own : Picture → List Call → Lent → Type 0
Own g [] s = Unit {0}
Own g (c ∷ cs) s = (answer_to c s ≡ 0 → c ≡ offer g (here c)) × Own g cs (after driver c s)

-- the macroblocks that a map leaves undone, by address, each offered with its own record
abbrev pub rest : Picture → List ℕ → List Call
rest g done = map (offer g) (undone_from 0 done)

-- ---- a run with starts between the calls
pub data Event : Type 0 where
  offers : Call → Event
  starts : (w h : ℕ) → Event

abbrev pub passed : List Event → Lent → Lent
passed [] s = s
passed (offers c ∷ es) s = passed es (after driver c s)
passed (starts w h ∷ es) s = passed es (started_at w h s)

abbrev pub calls_of : List Event → List Call
calls_of [] = []
calls_of (offers c ∷ es) = c ∷ calls_of es
calls_of (starts w h ∷ es) = calls_of es

-- each start is refused
abbrev pub StartsRefused : List Event → Lent → Type 0
StartsRefused [] s = Unit {0}
StartsRefused (offers c ∷ es) s = StartsRefused es (after driver c s)
StartsRefused (starts w h ∷ es) s = ¬ (start_answer w h (length s.done) ≡ 0) × StartsRefused es s
