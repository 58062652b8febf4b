-- Demand 3: the picture's driver is fair and its macroblocks are local, so any order gives the raster order's picture; and a macroblock waits for smaller
-- addresses only, so no run gets stuck. Assumes nothing.
use mathlib.Core.Path.{◌≡◌, refl, sym, ap, subst, ◌∙◌}
use mathlib.Core.List.{List, [], ◌∷◌, ◌++◌, map}
use Prim.Native.Nat.{ℕ, ◌<◌, ◌≤◌}
use lib.ListN.{length, replicate}
use lib.Seq.{ext_get_or}
use Rattle.laws.proofs.Answers.{refused}
use Rattle.order.specs.Order.{Alike, Done, AllDone, First, Permitted, undone_from, raster}
use Rattle.order.specs.Driver.{Fair, Spares, after, play, answers, Carries}
use Rattle.order.proofs.AnyOrder.{done_agrees, ok_steps}
use Rattle.order.proofs.Driver.{Sound, done_is_raster, whole_is_raster, padding_kept, ok_kept, counted, count_full, play_append, sound_run, first_taken, Offered, Taken, permitted_taken, rest_taken, rest_full, raster_taken}
use Rattle.order.proofs.Driver.{sound_play, done_kept, taken_now}
use Rattle.order.proofs.Raster.{raster_permitted, raster_done, build_raster}
use Rattle.order.proofs.Undone.{some_first}
use Rattle.maps.specs.Progress.{start_answer}
use Rattle.calls.specs.Planes.{Plane}
use Rattle.calls.specs.Rebuild.{Call, Lent, here, Acceptable, answer_to}
use Rattle.calls.specs.Run.{Picture, total_of, offer, AllAcceptable, RestAcceptable, Waits, Awaits, Lends, Planes, decoded, Location, sample_at, Region, InPicture, driver, started, run, Own, rest, Event, passed, calls_of, StartsRefused}
use Rattle.calls.specs.Run.Event.{offers, starts}
use Rattle.calls.specs.AnyOrder.{AnyOrder}
use Rattle.calls.proofs.Available.{waits_available}
use Rattle.calls.proofs.OnePicture.{view, fair, spares, step, offer_here, Depends, carries, bytes, Good, begins, planes_kept, awaits_smaller, laws, told, acceptable}
use Rattle.calls.proofs.Rules.{not_ready_when, never_first}

-- starts that are refused leave everything
same_run : (es : List Event) (s : Lent) → StartsRefused es s → passed es s ≡ play driver (calls_of es) s
same_run [] s q = refl
same_run (offers c ∷ es) s q = same_run es (after driver c s) q
same_run (starts w h ∷ es) s q =
    ap (passed es) (refused (start_answer w h (length s.done)) s _ q.0) ∙ same_run es s q.1

pub own_append : (g : Picture) (cs ds : List Call) (s : Lent) → Own g cs s → Own g ds (play driver cs s) → Own g (cs ++ ds) s
own_append g [] ds s o u = u
own_append g (c ∷ cs) ds s o u = (o.0, own_append g cs ds (after driver c s) o.1 u)

pub own_offers : (g : Picture) (o : List ℕ) (s : Lent) → Own g (map (offer g) o) s
own_offers g [] s = tt
own_offers g (a ∷ o) s = ((λ e. ap (offer g) (sym (offer_here g a))), own_offers g o (after driver (offer g a) s))

module _ (g : Picture) (s : Lent) (lends : Lends g s) where
  good : Good g s lends (started g s).planes
  good p = ap (λ planes. length (planes p)) (planes_kept g s lends)

  -- ---- runs with their own records
  module _ (cs : List Call) (o : Own g cs (started g s)) where
    kept : Carries driver view (total_of g) here Waits (step g) (Depends g) cs (started g s)
    kept = carries g cs (started g s) o

    whole : AllDone (total_of g) (run g cs s).done → (p : Plane) → (run g cs s).planes p ≡ decoded g s.planes p
    whole full p =
        ext_get_or 0 ((run g cs s).planes p) (decoded g s.planes p)
        (ok_kept (fair (total_of g)) (laws g s lends) cs (started g s) (begins g s lends) good kept p ∙ sym (ok_steps (laws g s lends) s.planes (λ q. refl) p))
        (λ i h. whole_is_raster (fair (total_of g)) (laws g s lends) cs (started g s) (begins g s lends) good kept (told g s lends) full (p, i)
        ∙ ap (λ planes. sample_at (decoded g planes) (p, i)) (planes_kept g s lends))

    outside : (i : Location) → ¬ InPicture g i → sample_at (run g cs s).planes i ≡ sample_at s.planes i
    outside i out =
        padding_kept (fair (total_of g)) (laws g s lends) cs (started g s) (begins g s lends) good kept i (λ a h t. out (a, h, t))
        ∙ ap (λ planes. sample_at planes i) (planes_kept g s lends)

    settled : (a : ℕ) → a < total_of g → Done (run g cs s).done a → Alike sample_at (Region g a) (run g cs s).planes (decoded g s.planes)
    settled a h d = done_is_raster (fair (total_of g)) (laws g s lends) cs (started g s) (begins g s lends) good kept s.planes (λ q. refl) a h d

  -- raster order over other planes of the same lengths
  same_picture : (t : Planes) → Good g s lends t → Alike sample_at (InPicture g) (decoded g s.planes) (decoded g t)
  same_picture t same i (a, h, r) =
      sym (ap (λ m. sample_at m i) (build_raster (step g) (total_of g) s.planes))
      ∙ done_agrees (laws g s lends) (raster (total_of g)) s.planes t (λ q. refl) same (raster_permitted (total_of g) (Depends g) (laws g s lends).earlier) a h (raster_done (total_of g) a h) i r

  -- ---- any runs
  fairly : Fair driver view (total_of g) here Waits
  fairly = fair (total_of g)

  sparing : Spares driver view (total_of g) here (Good g s lends)
  sparing = spares (total_of g) (bytes g s lends)

  only_earlier : (a b : ℕ) → a < total_of g → Awaits g a b → b < a
  only_earlier = awaits_smaller g s lends

  sound : (cs : List Call) → Sound fairly sparing (run g cs s)
  sound cs = sound_run fairly sparing cs (begins g s lends) good

  offered : (t : Lent) → RestAcceptable g t.done → Offered fairly sparing only_earlier (offer g) t
  offered t ok a h u = acceptable g s lends a h (ok a h u)

  first : (cs : List Call) (a : ℕ) → First (total_of g) (run g cs s).done a → Acceptable (offer g a) → answer_to (offer g a) (run g cs s) ≡ 0
  first cs a f ok = first_taken fairly sparing only_earlier (run g cs s) (sound cs) (acceptable g s lends a f.inside ok) f

  module _ (cs : List Call) (ok : RestAcceptable g (run g cs s).done) where
    remaining : Taken fairly sparing only_earlier (offer g) (undone_from 0 (run g cs s).done) (run g cs s)
    remaining = rest_taken fairly sparing only_earlier (offer g) (run g cs s) (sound cs) (offered (run g cs s) ok)

    finishes : AllDone (total_of g) (play driver (rest g (run g cs s).done) (run g cs s)).done
    finishes = rest_full fairly sparing only_earlier (offer g) (run g cs s) (sound cs) (offered (run g cs s) ok)

    right : Own g cs (started g s) → (p : Plane) → (play driver (rest g (run g cs s).done) (run g cs s)).planes p ≡ decoded g s.planes p
    right own p =
        let ds = rest g (run g cs s).done in
        let e = play_append driver cs ds (started g s) in
        ap (λ t. t.planes p) (sym e)
        ∙ whole (cs ++ ds) (own_append g cs ds (started g s) own (own_offers g (undone_from 0 (run g cs s).done) (run g cs s)))
        (λ a h. subst (λ t. Done t.done a) (sym e) (finishes a h)) p

    permitted : (o : List ℕ) → Permitted (total_of g) (Awaits g) o (run g cs s).done → answers driver (map (offer g) o) (run g cs s) ≡ replicate (length o) 0
    permitted o t = (permitted_taken fairly sparing only_earlier (offer g) o (run g cs s) (sound cs) (offered (run g cs s) ok) t).0

  -- from a state that is as long as it should be, what waits for done ones only is taken after any calls, while it is undone
  pub still_taken : length s.done ≡ total_of g → s.progress.count ≤ total_of g → (a : ℕ) → a < total_of g → Acceptable (offer g a)
      → ((b : ℕ) → Awaits g a b → Done s.done b) → (cs : List Call) → ¬ Done (play driver cs s).done a → answer_to (offer g a) (play driver cs s) ≡ 0
  still_taken long few a h ok ready cs undone =
      let now = sound_play fairly sparing cs s (record { good = λ p. refl; long = long; few = few }) in
      taken_now fairly sparing (play driver cs s) now (acceptable g s lends a h ok) undone (λ b w. done_kept fairly cs s b long (ready b w))

  in_raster_lem : AllAcceptable g → answers driver (map (offer g) (raster (total_of g))) (started g s) ≡ replicate (total_of g) 0
  in_raster_lem ok = raster_taken fairly sparing only_earlier (offer g) (begins g s lends) good (offered (started g s) (λ a h u. ok a h))

-- ---- demand 3
pub any_order : (g : Picture) → AnyOrder g
any_order g = record {
  finished = λ cs s l o. whole g s l cs o;
  fresh = λ s t l. same_picture g s l t.planes;
  padding = λ cs s l o. outside g s l cs o;
  final = λ cs s l o. settled g s l cs o;
  counted = λ cs s l. counted (fair (total_of g)) cs (begins g s l);
  full = λ cs s l. count_full (fair (total_of g)) cs (begins g s l);
  same_run = same_run;
  not_ready = not_ready_when;
  available_only = waits_available;
  first_undone = never_first;
  some_first = λ cs s. some_first (run g cs s).done (total_of g);
  first_accepted = λ cs s l. first g s l cs;
  rest_accepted = λ cs s l ok. (remaining g s l cs ok).0;
  rest_done = λ cs s l. finishes g s l cs;
  rest_right = λ cs s l. right g s l cs;
  any_permitted = λ cs s l. permitted g s l cs;
  possible = λ s l. in_raster_lem g s l;
}
