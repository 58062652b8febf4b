-- Demand 3: in whatever order the macroblocks come, a finished picture is the right one, and it can always be finished.
use Rattle.std.specs.Prelude.{◌≡◌, true, ◌↔◌, List, map, ℕ, ◌<◌, length, replicate}
use Rattle.order.specs.Driver.{play, answers}
use Rattle.order.specs.Order.{Alike, Done, AllDone, First, Permitted, undone_from, ones, raster}
use Rattle.maps.specs.Neighbours.{Side, beside}
use Rattle.calls.specs.Planes.{Plane}
use Rattle.calls.specs.Rebuild.{Call, Lent, here, marks, waits_for, Acceptable, answer_to, earlier}
use Rattle.calls.specs.Run.{Picture, total_of, offer, AllAcceptable, RestAcceptable, Awaits, Lends, decoded, Location, sample_at, Region, InPicture}
use Rattle.calls.specs.Run.{driver, started, run, Own, rest, Event, passed, calls_of, StartsRefused}

pub record AnyOrder (g : Picture) : Type 0 where
  -- ---- the right picture
  -- when all are accepted, the picture holds byte for byte what raster-order decoding by the standard gives
  pub finished : (cs : List Call) (s : Lent) → Lends g s → Own g cs (started g s) → AllDone (total_of g) (run g cs s).done
      → (p : Plane) → (run g cs s).planes p ≡ decoded g s.planes p
  -- whatever the planes held before: nothing of it is in the picture
  pub fresh : (s t : Lent) → Lends g s → ((p : Plane) → length (t.planes p) ≡ length (s.planes p))
      → Alike sample_at (InPicture g) (decoded g s.planes) (decoded g t.planes)
  -- and padding is untouched, also half way
  pub padding : (cs : List Call) (s : Lent) → Lends g s → Own g cs (started g s) → (i : Location) → ¬ InPicture g i
      → sample_at (run g cs s).planes i ≡ sample_at s.planes i
  -- half way, a macroblock that is done is final
  pub final : (cs : List Call) (s : Lent) → Lends g s → Own g cs (started g s) → (a : ℕ) → a < total_of g → Done (run g cs s).done a
      → Alike sample_at (Region g a) (run g cs s).planes (decoded g s.planes)
  -- the count equals the ones in the map, whatever was offered, and so tells when all is done
  pub counted : (cs : List Call) (s : Lent) → Lends g s → (run g cs s).progress.count ≡ ones (run g cs s).done
  pub full : (cs : List Call) (s : Lent) → Lends g s → (run g cs s).progress.count ≡ total_of g → AllDone (total_of g) (run g cs s).done
  -- starts that are refused between the calls change nothing
  pub same_run : (es : List Event) (s : Lent) → StartsRefused es s → passed es s ≡ play driver (calls_of es) s
  -- ---- never stuck
  -- a call that passes the earlier checks is refused as not ready exactly when a neighbour that it waits for, one that holds what its record reads, is undone;
  -- it waits for available ones only
  pub not_ready : (c : Call) (s : Lent) → earlier c s ≡ 0
      → (answer_to c s ≡ 5) ↔ ((k : Side) × (waits_for c k ≡ true) × ¬ Done s.done (beside c.width c.x c.y k))
  pub available_only : (c : Call) (k : Side) → waits_for c k ≡ true → marks c k ≡ true
  -- so the first undone macroblock, by address, never is
  pub first_undone : (c : Call) (s : Lent) → ((b : ℕ) → b < here c → Done s.done b) → ¬ (answer_to c s ≡ 5)
  -- after any run, whatever was refused, repeated or abandoned in it: while not all are done there is a first undone macroblock, and its own acceptable
  -- record is accepted
  pub some_first : (cs : List Call) (s : Lent) → ¬ AllDone (total_of g) (run g cs s).done → (a : ℕ) × First (total_of g) (run g cs s).done a
  pub first_accepted : (cs : List Call) (s : Lent) → Lends g s → (a : ℕ) → First (total_of g) (run g cs s).done a → Acceptable (offer g a)
      → answer_to (offer g a) (run g cs s) ≡ 0
  -- so from every state that a run reaches, the undone macroblocks by address, their records acceptable, meet no refusal and finish the picture; it is the
  -- right one if the run's records were its own
  pub rest_accepted : (cs : List Call) (s : Lent) → Lends g s → RestAcceptable g (run g cs s).done
      → answers driver (rest g (run g cs s).done) (run g cs s) ≡ replicate (length (undone_from 0 (run g cs s).done)) 0
  pub rest_done : (cs : List Call) (s : Lent) → Lends g s → RestAcceptable g (run g cs s).done
      → AllDone (total_of g) (play driver (rest g (run g cs s).done) (run g cs s)).done
  pub rest_right : (cs : List Call) (s : Lent) → Lends g s → RestAcceptable g (run g cs s).done → Own g cs (started g s)
      → (p : Plane) → (play driver (rest g (run g cs s).done) (run g cs s)).planes p ≡ decoded g s.planes p
  -- and so does every order from there in which each macroblock comes after those that it waits for; from the start, raster order is one
  pub any_permitted : (cs : List Call) (s : Lent) → Lends g s → RestAcceptable g (run g cs s).done
      → (o : List ℕ) → Permitted (total_of g) (Awaits g) o (run g cs s).done
      → answers driver (map (offer g) o) (run g cs s) ≡ replicate (length o) 0
  pub possible : (s : Lent) → Lends g s → AllAcceptable g → answers driver (map (offer g) (raster (total_of g))) (started g s) ≡ replicate (total_of g) 0
