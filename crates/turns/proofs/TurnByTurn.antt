-- Turn after turn: each leaves the map that the count has after it, so that the picture is finished with the last that is counted. Assumes nothing.
use mathlib.Core.Path.{◌≡◌, sym, ap, subst, ◌∙◌}
use mathlib.Core.Logic.{◌↔◌}
use mathlib.Core.List.{List, [], ◌∷◌, map}
use Prim.Native.Nat.{ℕ, zero, suc, ◌+◌, ◌≤◌, zero-le}
use native.Mathlib.Nat.{add-zero}
use native.Mathlib.Omega.{arith}
use lib.ListN.{length, length-replicate}
use Rattle.order.specs.Driver.{play}
use Rattle.order.specs.Lists.{joined}
use Rattle.order.specs.Order.{AllDone, marked}
use Rattle.order.proofs.Driver.{play_append}
use Rattle.order.proofs.Lists.{permutes_itself}
use Rattle.maps.specs.Progress.{start_answer}
use Rattle.calls.specs.Planes.{Plane}
use Rattle.calls.specs.Rebuild.{Call, Lent}
use Rattle.calls.specs.Run.{Picture, total_of, offer, AllAcceptable, Lends, decoded, driver, started, run, Own}
use Rattle.calls.proofs.AnyOrder.{any_order, own_append}
use Rattle.calls.proofs.OnePicture.{sized, begun_at, begins}
use Rattle.turn_count.specs.Count.{done_after, turn_count}
use Rattle.turn_count.proofs.HowMany.{how_many}
use Rattle.turns.specs.OneTurn.{turn_of, WellLent, TakesTurn}
use Rattle.turns.specs.TurnByTurn.{TakesTurns, offered, TurnByTurn}
use Rattle.turns.proofs.OneTurn.{one_turn}

module _ (g : Picture) where
  abbrev after : ℕ → List ℕ
  after t = done_after g.width g.height g.slices t

  -- ---- from any map of the count's
  after_next : (s : Lent) (cs : List Call) → TakesTurn g s cs → (t : ℕ) → s.done ≡ after t → (play driver cs s).done ≡ after (suc t)
  unfolding done_after
  after_next s cs k t e = (one_turn g).done s cs k ∙ ap (λ d. marked (turn_of g d) d) e

  after_turns : (runs : List (List Call)) (s : Lent) → TakesTurns g s runs → (t : ℕ) → s.done ≡ after t
      → (play driver (joined runs) s).done ≡ after (t + length runs)
  after_turns [] s k t e = e ∙ ap after (sym (add-zero t))
  after_turns (cs ∷ runs) s k t e =
      ap (λ u. u.done) (play_append driver cs (joined runs) s) ∙ after_turns runs (play driver cs s) k.1 (suc t) (after_next s cs k.0 t e)
      ∙ ap after (omega arith)

  own_turns : (runs : List (List Call)) (s : Lent) → TakesTurns g s runs → Own g (joined runs) s
  own_turns [] s k = tt
  own_turns (cs ∷ runs) s k = own_append g cs (joined runs) s k.0.own (own_turns runs (play driver cs s) k.1)

  takes_offered : AllAcceptable g → (t : ℕ) (s : Lent) → WellLent g s → TakesTurns g s (offered g t s)
  takes_offered ok zero s k = tt
  takes_offered ok (suc t) s k =
      let o = turn_of g s.done in
      let takes = ((one_turn g).taken s k o (permutes_itself o) (λ a n. ok a ((one_turn g).inside s.done a n))).1 in
      (takes, takes_offered ok t (play driver (map (offer g) o) s) ((one_turn g).again s (map (offer g) o) takes))

  -- ---- from a start
  module _ (s : Lent) (l : Lends g s) where
    well_started : WellLent g (started g s)
    well_started =
        subst (WellLent g) (sym (begun_at g s l)) (record {
          lends = record {
            starts = subst (λ n. start_answer g.width g.height n ≡ 0) (sym (length-replicate (length s.done) 0)) l.starts;
            planes = l.planes;
            slices = l.slices;
          };
          few = zero-le;
        })

    first : (started g s).done ≡ after 0
    unfolding done_after
    first = (begins g s l).empty

    module _ (runs : List (List Call)) (k : TakesTurns g (started g s) runs) where
      done_after_lem : (run g (joined runs) s).done ≡ after (length runs)
      done_after_lem = after_turns runs (started g s) k 0 first ∙ ap after (omega arith)

      finished : AllDone (total_of g) (run g (joined runs) s).done ↔ (turn_count g.width g.height g.slices ≤ length runs)
      finished =
          subst (λ d. AllDone (total_of g) d ↔ (turn_count g.width g.height g.slices ≤ length runs)) (sym done_after_lem)
          ((how_many g.width g.height g.slices (sized g s l).0).finished (length runs))

      right : turn_count g.width g.height g.slices ≤ length runs → (p : Plane) → (run g (joined runs) s).planes p ≡ decoded g s.planes p
      right e = (any_order g).finished (joined runs) s l (own_turns runs (started g s) k) (finished.1 e)

pub turn_by_turn : (g : Picture) → TurnByTurn g
turn_by_turn g = record {
  done_after_lem = done_after_lem g;
  finished = finished g;
  right = right g;
  possible = λ s l ok t. takes_offered g ok t (started g s) (well_started g s l);
}
