-- A picture turn by turn: whoever takes the turns, and in whatever order, it is finished after as many as `turn_count` says, and not sooner.
use Rattle.std.specs.Prelude.{◌≡◌, ◌↔◌, List, [], ◌∷◌, map, ℕ, zero, suc, ◌≤◌, length}
use Rattle.order.specs.Driver.{play}
use Rattle.order.specs.Lists.{joined}
use Rattle.order.specs.Order.{AllDone}
use Rattle.calls.specs.Planes.{Plane}
use Rattle.calls.specs.Rebuild.{Call, Lent}
use Rattle.calls.specs.Run.{Picture, total_of, offer, AllAcceptable, Lends, decoded, driver, started, run}
use Rattle.turn_count.specs.Count.{done_after, turn_count}
use Rattle.turns.specs.OneTurn.{turn_of, TakesTurn}

-- each of the runs takes the whole turn of what those before it left
abbrev pub TakesTurns : Picture → Lent → List (List Call) → Type 0
TakesTurns g s [] = Unit {0}
TakesTurns g s (cs ∷ runs) = TakesTurn g s cs × TakesTurns g (play driver cs s) runs

-- t turns, each offered as it is listed, with its macroblocks' own records
abbrev pub offered : Picture → ℕ → Lent → List (List Call)
offered g zero s = []
offered g (suc t) s = let cs : List Call = map (offer g) (turn_of g s.done) in cs ∷ offered g t (play driver cs s)

pub record TurnByTurn (g : Picture) : Type 0 where
  -- the map after them is that of the count
  pub done_after_lem : (s : Lent) → Lends g s → (runs : List (List Call)) → TakesTurns g (started g s) runs
      → (run g (joined runs) s).done ≡ done_after g.width g.height g.slices (length runs)
  -- so the picture is finished after that many turns or more, and not sooner, and then it is the right one
  pub finished : (s : Lent) → Lends g s → (runs : List (List Call)) → TakesTurns g (started g s) runs
      → AllDone (total_of g) (run g (joined runs) s).done ↔ (turn_count g.width g.height g.slices ≤ length runs)
  pub right : (s : Lent) → Lends g s → (runs : List (List Call)) → TakesTurns g (started g s) runs → turn_count g.width g.height g.slices ≤ length runs
      → (p : Plane) → (run g (joined runs) s).planes p ≡ decoded g s.planes p
  -- with acceptable records there are such runs, of as many turns as one likes
  pub possible : (s : Lent) → Lends g s → AllAcceptable g → (t : ℕ) → TakesTurns g (started g s) (offered g t (started g s))
