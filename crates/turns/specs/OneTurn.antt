-- What comes of a turn: there always is one, its macroblocks may be taken by anybody and in any order, and the same is left.
use Rattle.std.specs.Prelude.{◌≡◌, ◌↔◌, List, [], map, ℕ, ◌+◌, ◌/◌, ◌<◌, ◌≤◌, min, length, replicate}
use Rattle.order.specs.Driver.{play, answers, taken_by}
use Rattle.order.specs.Lists.{Names, Rises, Permutes}
use Rattle.order.specs.Order.{Alike, Done, AllDone, First, marked}
use Rattle.maps.specs.Neighbours.{Adjoins}
use Rattle.maps.specs.Size.{address, Stands}
use Rattle.calls.specs.Planes.{Plane}
use Rattle.calls.specs.Rebuild.{Call, Lent, here, Acceptable, answer_to, square_in}
use Rattle.calls.specs.Run.{Picture, total_of, offer, Lends, Planes, Location, sample_at, Region, driver, Own}
use Rattle.turn_list.specs.Turn.{turn, Startable}

-- a picture's turn, by its done map
abbrev pub turn_of : Picture → List ℕ → List ℕ
turn_of g done = turn g.width g.height g.slices done

-- what macroblock a, rebuilt from its own record, makes of the planes
abbrev pub rebuilt_at : Picture → ℕ → Planes → Planes
rebuilt_at g a planes p = square_in (offer g a) p (planes p)

-- what is lent is what the rules 1 and 2 ask for: memory that is large enough, and a count of at most W * H. Which macroblocks are done is any
pub record WellLent (g : Picture) (s : Lent) : Type 0 where
  pub lends : Lends g s
  pub few : s.progress.count ≤ total_of g

-- ---- a run of calls with any arguments: the macroblocks that it accepts, in their order
abbrev pub accepted_by : List Call → Lent → List ℕ
accepted_by cs s = taken_by driver here cs s

-- it accepts the macroblocks of a turn, in whatever order, each with its own record, and refuses everything else
pub record TakesTurn (g : Picture) (s : Lent) (cs : List Call) : Type 0 where
  pub holds : WellLent g s
  pub own : Own g cs s
  pub permutes : Permutes (accepted_by cs s) (turn_of g s.done)

-- the same planes, done map and count: all but the last address
pub record SameButLast (s t : Lent) : Type 0 where
  pub planes : (p : Plane) → s.planes p ≡ t.planes p
  pub done : s.done ≡ t.done
  pub count : s.progress.count ≡ t.progress.count

pub record OneTurn (g : Picture) : Type 0 where
  -- ---- what a turn lists
  -- the macroblocks that may start, and nothing else, from the top row down, one of a row at most
  pub lists : (done : List ℕ) (x y : ℕ) → Stands g.width g.height x y
      → Names (turn_of g done) (address g.width x y) ↔ Startable g.width g.slices done x y
  pub inside : (done : List ℕ) (a : ℕ) → Names (turn_of g done) a → a < total_of g
  pub rises : (done : List ℕ) → Rises (turn_of g done)
  pub rows : (done : List ℕ) (a b : ℕ) → Names (turn_of g done) a → Names (turn_of g done) b → a / g.width ≡ b / g.width → a ≡ b
  pub short : (done : List ℕ) → length (turn_of g done) ≤ g.height
  -- ---- an idle core always finds work
  -- while a macroblock is undone there is a turn, with the first undone one in it
  pub some : (done : List ℕ) → ¬ AllDone (total_of g) done → ¬ (turn_of g done ≡ [])
  pub first : (done : List ℕ) (a : ℕ) → First (total_of g) done a → Names (turn_of g done) a
  -- what a core has drawn stays good, whatever calls come meanwhile: its own acceptable record is accepted, unless the macroblock was done by another
  pub stays : (s : Lent) → WellLent g s → (a : ℕ) → Names (turn_of g s.done) a → Acceptable (offer g a)
      → (cs : List Call) → ¬ Done (play driver cs s).done a → answer_to (offer g a) (play driver cs s) ≡ 0
  -- ---- cores do not meet: neither of two macroblocks of a turn reads what the other writes
  pub apart : (done : List ℕ) (a b : ℕ) → Names (turn_of g done) a → Names (turn_of g done) b → ¬ Adjoins g.width g.slices a b
  pub unwritten : (s : Lent) → Lends g s → (a b : ℕ) → Names (turn_of g s.done) a → Names (turn_of g s.done) b → ¬ (a ≡ b)
      → Alike sample_at (Region g b) (rebuilt_at g a s.planes) s.planes
  pub unread : (s : Lent) → Lends g s → (a b : ℕ) → Names (turn_of g s.done) a → Names (turn_of g s.done) b
      → (t : Planes) → ((p : Plane) → length (t p) ≡ length (s.planes p)) → ((i : Location) → ¬ Region g b i → sample_at s.planes i ≡ sample_at t i)
      → Alike sample_at (Region g a) (rebuilt_at g a s.planes) (rebuilt_at g a t)
  -- ---- a whole turn, in any order
  -- offered with acceptable records, none of its macroblocks is refused
  pub taken : (s : Lent) → WellLent g s → (o : List ℕ) → Permutes o (turn_of g s.done) → ((a : ℕ) → Names o a → Acceptable (offer g a))
      → (answers driver (map (offer g) o) s ≡ replicate (length o) 0) × TakesTurn g s (map (offer g) o)
  -- whatever is refused between them, the turn is marked and counted, and what is left is again what the rules ask for
  pub done : (s : Lent) (cs : List Call) → TakesTurn g s cs → (play driver cs s).done ≡ marked (turn_of g s.done) s.done
  pub counts : (s : Lent) (cs : List Call) → TakesTurn g s cs
      → (play driver cs s).progress.count ≡ min (s.progress.count + length (turn_of g s.done)) (total_of g)
  pub again : (s : Lent) (cs : List Call) → TakesTurn g s cs → WellLent g (play driver cs s)
  -- two such runs leave the same, and so the next turn is the same
  pub same : (s : Lent) (cs ds : List Call) → TakesTurn g s cs → TakesTurn g s ds → SameButLast (play driver cs s) (play driver ds s)
  pub next : (s : Lent) (cs ds : List Call) → TakesTurn g s cs → TakesTurn g s ds → turn_of g (play driver cs s).done ≡ turn_of g (play driver ds s).done
