-- A replay that meets no refusal takes its list as a permitted order, and a permitted order of acceptable records meets none. Assumes nothing.
use mathlib.Core.Path.{◌≡◌, sym, ap, subst, ◌∙◌}
use mathlib.Core.List.{List, []}
use Prim.Native.Nat.{ℕ, ◌+◌, min}
use native.Mathlib.Omega.{arith}
use lib.ListN.{length, replicate, length-replicate, length-map}
use Rattle.order.specs.Driver.{answers, taken_by}
use Rattle.order.specs.FullOrder.{FullOrder}
use Rattle.order.specs.Order.{AllDone, marked, Permitted}
use Rattle.order.proofs.Count.{done_full}
use Rattle.order.proofs.Driver.{taken_permitted, taken_count, none_refused, counted_long}
use Rattle.order.proofs.FullOrder.{full_fewer, full_permitted, full_long, permitted_full, long_finishes}
use Rattle.maps.specs.Neighbours.{Adjoins}
use Rattle.calls.specs.Planes.{Plane}
use Rattle.calls.specs.Rebuild.{Call, Lent, here}
use Rattle.calls.specs.Run.{Picture, total_of, offer, AllAcceptable, Awaits, Lends, decoded, driver, started, run}
use Rattle.calls.proofs.AnyOrder.{any_order, own_offers}
use Rattle.calls.proofs.OnePicture.{fair, offer_here, awaits_adjoins, begins}
use Rattle.replays.specs.Replay.{replay, Accepted, InOrder, ReadsAll, Replay}

module _ (g : Picture) (order : List ℕ) (s : Lent) (l : Lends g s) where
  -- the start's map is empty
  empty : (started g s).done ≡ replicate (total_of g) 0
  empty = (begins g s l).empty

  long : length (started g s).done ≡ total_of g
  long = ap length empty ∙ length-replicate (total_of g) 0

  -- ---- a replay that meets no refusal
  module _ (e : Accepted g order s) where
    taken : Permitted (total_of g) (Awaits g) order (started g s).done × ((run g (replay g order) s).done ≡ marked order (started g s).done)
    taken = taken_permitted (fair (total_of g)) (offer g) (offer_here g) order (started g s) long e

    allowed : Permitted (total_of g) (Awaits g) order (replicate (total_of g) 0)
    allowed = subst (Permitted (total_of g) (Awaits g) order) empty taken.0

    module _ (many : length order ≡ total_of g) where
      fills : AllDone (total_of g) (marked order (replicate (total_of g) 0))
      fills = long_finishes (total_of g) (Awaits g) order allowed many

      only : FullOrder (total_of g) (Awaits g) order
      only = permitted_full (total_of g) (Awaits g) order allowed fills

      all_done : AllDone (total_of g) (run g (replay g order) s).done
      all_done = subst (AllDone (total_of g)) (sym (taken.1 ∙ ap (marked order) empty)) fills

  -- ---- as many as there are macroblocks: each that is done was taken
  done_accepted : length order ≡ total_of g → AllDone (total_of g) (run g (replay g order) s).done → Accepted g order s
  done_accepted many all = none ∙ ap (λ n. replicate n 0) (length-map order (offer g))
    where
      cs : List Call
      cs = replay g order

      kept : length (run g cs s).done ≡ total_of g
      kept = counted_long (fair (total_of g)) cs (begins g s l)

      full : (run g cs s).progress.count ≡ total_of g
      full = (any_order g).counted cs s l ∙ done_full (run g cs s).done (λ a h. all a (omega (arith, kept))) ∙ kept

      count : (run g cs s).progress.count ≡ min ((started g s).progress.count + length (taken_by driver here cs (started g s))) (total_of g)
      count = taken_count (fair (total_of g)) cs (started g s) long (omega (arith, (begins g s l).none))

      none : answers driver cs (started g s) ≡ replicate (length cs) 0
      none = none_refused (fair (total_of g)) cs (started g s) (omega (arith, full, count, many, (begins g s l).none, length-map order (offer g)))

  -- ---- acceptable records
  module _ (ok : AllAcceptable g) where
    enough : FullOrder (total_of g) (Awaits g) order → Accepted g order s
    enough f =
        (any_order g).any_permitted [] s l (λ a h u. ok a h) order
        (subst (Permitted (total_of g) (Awaits g) order) (sym empty) (full_permitted (total_of g) (Awaits g) order f))

    module _ (f : InOrder g order) where
      accepted : Accepted g order s
      accepted = enough (full_fewer (λ a b h. awaits_adjoins g a b) f)

      finished : AllDone (total_of g) (run g (replay g order) s).done
      finished = all_done accepted (full_long (total_of g) (Adjoins g.width g.slices) order f)

      right : (p : Plane) → (run g (replay g order) s).planes p ≡ decoded g s.planes p
      right = (any_order g).finished (replay g order) s l (own_offers g order (started g s)) finished

  -- ---- records that read from every available neighbour
  refused : length order ≡ total_of g → ReadsAll g → ¬ InOrder g order → ¬ Accepted g order s
  refused many reads n e = n (full_fewer (λ a b h (k, t, is). (k, reads a h k t, is)) (only e many))

pub replays : (g : Picture) → Replay g
replays g = record {
  accepted = accepted g;
  finished = finished g;
  right = right g;
  only = λ order s l many e. only g order s l e many;
  enough = enough g;
  undone = λ order s l many. ((λ e. all_done g order s l e many), done_accepted g order s l many);
  refused = refused g;
}
