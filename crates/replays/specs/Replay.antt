-- Replaying a list of addresses from a start, each macroblock with its own record: a list that passes the check meets no refusal and finishes the picture.
use Rattle.std.specs.Prelude.{◌≡◌, true, ◌↔◌, List, map, ℕ, ◌<◌, length, replicate}
use Rattle.order.specs.Driver.{answers}
use Rattle.order.specs.FullOrder.{FullOrder}
use Rattle.order.specs.Order.{AllDone}
use Rattle.maps.specs.Neighbours.{Side, Adjoins}
use Rattle.calls.specs.Planes.{Plane}
use Rattle.calls.specs.Rebuild.{Call, Lent, marks, waits_for}
use Rattle.calls.specs.Run.{Picture, total_of, offer, AllAcceptable, Awaits, Lends, decoded, driver, started, run}

-- the calls of a replay
abbrev pub replay : Picture → List ℕ → List Call
replay g order = map (offer g) order

-- it meets no refusal
abbrev pub Accepted : Picture → List ℕ → Lent → Type 0
Accepted g order s = answers driver (replay g order) (started g s) ≡ replicate (length order) 0

-- the list names every macroblock once, each after all its available neighbours: this is what yes says
abbrev pub InOrder : Picture → List ℕ → Type 0
InOrder g order = FullOrder (total_of g) (Adjoins g.width g.slices) order

-- the records read from every available neighbour
abbrev pub ReadsAll : Picture → Type 0
ReadsAll g = (a : ℕ) → a < total_of g → (k : Side) → marks (offer g a) k ≡ true → waits_for (offer g a) k ≡ true

pub record Replay (g : Picture) : Type 0 where
  -- ---- yes: with acceptable records the replay meets no refusal, the picture is finished, and it is the right one
  pub accepted : (order : List ℕ) (s : Lent) → Lends g s → AllAcceptable g → InOrder g order → Accepted g order s
  pub finished : (order : List ℕ) (s : Lent) → Lends g s → AllAcceptable g → InOrder g order → AllDone (total_of g) (run g (replay g order) s).done
  pub right : (order : List ℕ) (s : Lent) → Lends g s → AllAcceptable g → InOrder g order
      → (p : Plane) → (run g (replay g order) s).planes p ≡ decoded g s.planes p
  -- ---- no: which lists of W * H addresses meet a refusal
  -- one that meets none names every macroblock once, each after those that its record waits for; with acceptable records every such list meets none
  pub only : (order : List ℕ) (s : Lent) → Lends g s → length order ≡ total_of g → Accepted g order s → FullOrder (total_of g) (Awaits g) order
  pub enough : (order : List ℕ) (s : Lent) → Lends g s → AllAcceptable g → FullOrder (total_of g) (Awaits g) order → Accepted g order s
  -- it meets one exactly where a macroblock is left undone
  pub undone : (order : List ℕ) (s : Lent) → Lends g s → length order ≡ total_of g
      → Accepted g order s ↔ AllDone (total_of g) (run g (replay g order) s).done
  -- where the records read from every available neighbour, that is every list of which no is said. Where they do not, the check, which sees no modes, may say
  -- no of a list that a replay accepts
  pub refused : (order : List ℕ) (s : Lent) → Lends g s → length order ≡ total_of g → ReadsAll g → ¬ InOrder g order → ¬ Accepted g order s
