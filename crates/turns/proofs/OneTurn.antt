-- A turn's macroblocks are undone, ready and apart, so that the picture's driver takes them in any order, and their squares change places. Assumes nothing.
use mathlib.Core.Path.{◌≡◌, refl, sym, ap, subst, ◌∙◌}
use mathlib.Core.Bool.{true}
use mathlib.Core.List.{List, map}
use Prim.Native.Nat.{ℕ, ◌+◌, ◌<◌, min}
use native.Mathlib.Omega.{arith}
use lib.ListN.{length, replicate}
use lib.Seq.{ext_get_or}
use Rattle.order.specs.Driver.{Fair, Spares, play, answers}
use Rattle.order.specs.Lists.{Names, Permutes}
use Rattle.order.specs.Order.{Alike, Done, Ready, build, marked, Permitted}
use Rattle.order.proofs.Driver.{Ran, ran, taken_all, taken_count, Sound, sound_play, order_taken}
use Rattle.order.proofs.Lists.{names_permuted, length_permuted}
use Rattle.order.proofs.Orders.{permitted_fewer}
use Rattle.order.proofs.Permuted.{marked_permuted, build_permuted}
use Rattle.maps.specs.Neighbours.{Adjoins}
use Rattle.maps.specs.Progress.{start_answer}
use Rattle.calls.specs.Planes.{Plane, side, plane_ok}
use Rattle.calls.specs.Rebuild.{Call, Lent, here, Acceptable, answer_to}
use Rattle.calls.specs.Run.{Picture, total_of, offer, Waits, Awaits, Lends, Planes, Location, sample_at, Region, driver}
use Rattle.calls.proofs.AnyOrder.{own_offers, still_taken}
use Rattle.calls.proofs.OnePicture.{view, fair, spares, step, offer_here, Depends, awaits_adjoins, carries, bytes, Good, sized, awaits_smaller, laws, told, acceptable}
use Rattle.calls.proofs.Squares.{depends_marked}
use Rattle.turn_list.proofs.Begun.{Begins, turn_begins, turn_apart, turn_permitted, turn_has_first, turn_some}
use Rattle.turn_list.proofs.Startable.{turn_starts, turn_names, turn_rises, turn_rows, turn_short}
use Rattle.turns.specs.OneTurn.{turn_of, rebuilt_at, WellLent, accepted_by, TakesTurn, SameButLast, OneTurn}

-- ---- a turn of the picture
module _ (g : Picture) (done : List ℕ) where
  begins_at : (a : ℕ) → Names (turn_of g done) a → Begins g.width g.height g.slices done a
  begins_at a n = turn_begins g.width g.height g.slices done a n

  -- what its macroblocks wait for is done
  ready : (a : ℕ) → Names (turn_of g done) a → Ready (Awaits g) done a
  ready a n b w = (begins_at a n).ready b (awaits_adjoins g a b w)

  allowed : (o : List ℕ) → length done ≡ total_of g → Permutes o (turn_of g done) → Permitted (total_of g) (Awaits g) o done
  allowed o long p =
      permitted_fewer (total_of g) (Adjoins g.width g.slices) (Awaits g) (awaits_adjoins g) o done (turn_permitted g.width g.height g.slices done o long p)

-- ---- what is lent
module _ (g : Picture) (s : Lent) (k : WellLent g s) where
  fairly : Fair driver view (total_of g) here Waits
  fairly = fair (total_of g)

  sparing : Spares driver view (total_of g) here (Good g s k.lends)
  sparing = spares (total_of g) (bytes g s k.lends)

  sound : Sound fairly sparing s
  sound = record { good = λ p. refl; long = (sized g s k.lends).1; few = k.few }

  holds_sound : (t : Lent) → Sound fairly sparing t → WellLent g t
  holds_sound t v = record {
    lends = record {
      starts = subst (λ n. start_answer g.width g.height n ≡ 0) ((sized g s k.lends).1 ∙ sym v.long) k.lends.starts;
      planes = λ p. subst (λ n. plane_ok (side p) g.width g.height (g.stride p) n ≡ true) (sym (v.good p)) (k.lends.planes p);
      slices = k.lends.slices;
    };
    few = v.few;
  }

  -- what was drawn stays good
  stays : (a : ℕ) → Names (turn_of g s.done) a → Acceptable (offer g a) → (cs : List Call) → ¬ Done (play driver cs s).done a
      → answer_to (offer g a) (play driver cs s) ≡ 0
  stays a n ok = still_taken g s k.lends sound.long k.few a (begins_at g s.done a n).inside ok (ready g s.done a n)

-- ---- two of a turn
module _ (g : Picture) (s : Lent) (l : Lends g s) where
  free : (a b : ℕ) → Names (turn_of g s.done) a → Names (turn_of g s.done) b → ¬ Depends g a b
  free a b m n (k, t, e) = turn_apart g.width g.height g.slices s.done a b m n (k, depends_marked (offer g a) k t, e)

  unwritten : (a b : ℕ) → Names (turn_of g s.done) a → Names (turn_of g s.done) b → ¬ (a ≡ b) → Alike sample_at (Region g b) (rebuilt_at g a s.planes) s.planes
  unwritten a b m n q i r =
      let ha = (begins_at g s.done a m).inside in
      (laws g s l).writes a s.planes i ha (λ p. refl) (λ t. q ((laws g s l).apart a b i ha (begins_at g s.done b n).inside t r))

  unread : (a b : ℕ) → Names (turn_of g s.done) a → Names (turn_of g s.done) b → (t : Planes) → Good g s l t
      → ((i : Location) → ¬ Region g b i → sample_at s.planes i ≡ sample_at t i) → Alike sample_at (Region g a) (rebuilt_at g a s.planes) (rebuilt_at g a t)
  unread a b m n t ok same =
      let ha = (begins_at g s.done a m).inside in
      (laws g s l).reads a s.planes t ha (λ p. refl) ok (λ c w i r. same i (λ u.
      let e = (laws g s l).apart c b i (before c w ha) (begins_at g s.done b n).inside r u in free a b m n (subst (Depends g a) e w)))
    where
      before : (c : ℕ) → Depends g a c → a < total_of g → c < total_of g
      before c w ha = omega (arith, (laws g s l).earlier a c ha w)

  -- planes that hold the same samples are the same
  planes_same : (p q : Planes) → Good g s l p → Good g s l q → ((i : Location) → sample_at p i ≡ sample_at q i) → p ≡ q
  planes_same p q kp kq f = λ i x. each x i
    where
      each : (x : Plane) → p x ≡ q x
      each x = ext_get_or 0 (p x) (q x) (kp x ∙ sym (kq x)) (λ j h. f (x, j))

  squares_permuted : (o : List ℕ) → Permutes o (turn_of g s.done) → build (step g) o s.planes ≡ build (step g) (turn_of g s.done) s.planes
  squares_permuted o p =
      build_permuted (laws g s l) (told g s l) planes_same p (λ a n. (begins_at g s.done a n).inside) free s.planes (λ q. refl)

-- ---- a whole turn
module _ (g : Picture) (s : Lent) (k : WellLent g s) (o : List ℕ) (p : Permutes o (turn_of g s.done)) (ok : (a : ℕ) → Names o a → Acceptable (offer g a)) where
  taken : answers driver (map (offer g) o) s ≡ replicate (length o) 0
  taken =
      (order_taken (fairly g s k) (sparing g s k) (awaits_smaller g s k.lends) (offer g) o s (sound g s k)
      (λ a n. acceptable g s k.lends a (begins_at g s.done a (names_permuted p a n)).inside (ok a n))
      (allowed g s.done o (sized g s k.lends).1 p)).0

  takes : TakesTurn g s (map (offer g) o)
  takes = record {
    holds = k;
    own = own_offers g o s;
    permutes = subst (λ l. Permutes l (turn_of g s.done)) (sym (taken_all (fairly g s k) (offer g) (offer_here g) o s taken)) p;
  }

module _ (g : Picture) (s : Lent) (cs : List Call) (t : TakesTurn g s cs) where
  long : length s.done ≡ total_of g
  long = (sized g s t.holds.lends).1

  went : Ran (fair (total_of g)) (step g) (Depends g) cs s
  went = ran (fair (total_of g)) (step g) (Depends g) cs s long (carries g cs s t.own)

  done : (play driver cs s).done ≡ marked (turn_of g s.done) s.done
  done = went.done ∙ marked_permuted t.permutes s.done

  planes : (play driver cs s).planes ≡ build (step g) (turn_of g s.done) s.planes
  planes = went.memory ∙ squares_permuted g s t.holds.lends (accepted_by cs s) t.permutes

  counts : (play driver cs s).progress.count ≡ min (s.progress.count + length (turn_of g s.done)) (total_of g)
  counts = taken_count (fair (total_of g)) cs s long t.holds.few ∙ ap (λ n. min (s.progress.count + n) (total_of g)) (length_permuted t.permutes)

  again : WellLent g (play driver cs s)
  again = holds_sound g s t.holds (play driver cs s) (sound_play (fairly g s t.holds) (sparing g s t.holds) cs s (sound g s t.holds))

same : (g : Picture) (s : Lent) (cs ds : List Call) → TakesTurn g s cs → TakesTurn g s ds → SameButLast (play driver cs s) (play driver ds s)
same g s cs ds t v = record {
  planes = λ p. ap (λ f. f p) (planes g s cs t ∙ sym (planes g s ds v));
  done = done g s cs t ∙ sym (done g s ds v);
  count = counts g s cs t ∙ sym (counts g s ds v);
}

pub one_turn : (g : Picture) → OneTurn g
one_turn g = record {
  lists = λ d x y p. (turn_starts g.width g.slices d g.height x y p.in_w, turn_names g.width g.slices d g.height x y p);
  inside = λ d a n. (begins_at g d a n).inside;
  rises = λ d. turn_rises g.width g.slices d g.height;
  rows = λ d. turn_rows g.width g.slices d g.height;
  short = λ d. turn_short g.width g.slices d g.height;
  some = turn_some g.width g.height g.slices;
  first = turn_has_first g.width g.height g.slices;
  stays = λ s k. stays g s k;
  apart = turn_apart g.width g.height g.slices;
  unwritten = λ s l. unwritten g s l;
  unread = λ s l. unread g s l;
  taken = λ s k o p ok. (taken g s k o p ok, takes g s k o p ok);
  done = λ s cs t. done g s cs t;
  counts = λ s cs t. counts g s cs t;
  again = λ s cs t. again g s cs t;
  same = same g;
  next = λ s cs ds t v. ap (turn_of g) (same g s cs ds t v).done;
}
