-- A commit of a result that lasts is the whole call, so that halves, mixed in any way, leave what a run of whole calls leaves. Assumes nothing.
use mathlib.Core.Path.{◌≡◌, refl, sym, ap, subst, ◌∙◌}
use mathlib.Core.Logic.{inl, inr}
use mathlib.Core.List.{List, [], ◌∷◌, ◌++◌, map, head-eq_of_cons-eq, tail-eq_of_cons-eq}
use Prim.Native.Nat.{ℕ, zero, suc, ◌<◌}
use lib.ListN.{length, replicate}
use Rattle.laws.specs.Answer.{written}
use Rattle.laws.proofs.Answers.{put}
use Rattle.order.specs.Driver.{after, play, answers}
use Rattle.order.specs.Order.{Alike, Done, AllDone, First, undone_from, ones}
use Rattle.order.proofs.Driver.{play_append, done_kept}
use Rattle.calls.specs.Planes.{Plane}
use Rattle.calls.specs.Rebuild.{Call, Lent, here, Acceptable, answer_to, rebuilt}
use Rattle.calls.specs.Run.{Picture, total_of, offer, RestAcceptable, decoded, Location, sample_at, Region, InPicture, driver, started, run, Own, rest}
use Rattle.calls.proofs.AnyOrder.{any_order, own_append}
use Rattle.calls.proofs.OnePicture.{fair}
use Rattle.halves.specs.Halves.{samples_of, compute_answer, commit_answer, committed, after_commit}
use Rattle.halves.specs.Workers.{Result, Shared, Work, next, go_on, Among, OwnWork, AllOwn, worked, Worked, left, in_turn, closed, Workers}
use Rattle.halves.specs.Workers.Work.{compute, commit, whole}
use Rattle.halves.proofs.InTwo.{in_two, compute_accepted, commit_accepts, commit_undone}
use Rattle.halves.proofs.Lasting.{lasting}

-- committed at once, what was computed is the whole call
at_once : (c : Call) (s : Lent) → answer_to c s ≡ 0 → committed c (samples_of c s.planes) s ≡ after driver c s
at_once c s e = in_two.whole c s e ∙ sym (put s (rebuilt c s) e)

module _ (g : Picture) where
  -- ---- a result is good in a state: its call carries its own record, and as long as its macroblock is undone would be accepted, and give this block
  record GoodResult (s : Lent) (c : Call) (block : List ℕ) : Type 0 where
    own : c ≡ offer g (here c)
    fresh : ¬ Done s.done (here c) → (answer_to c s ≡ 0) × (samples_of c s.planes ≡ block)

  abbrev AllGood : Shared → Type 0
  AllGood w = (c : Call) (block : List ℕ) → Among w.results c block → GoodResult w.lent c block

  -- it stays good
  lasts : (c : Call) → c ≡ offer g (here c) → (cs : List Call) (s : Lent) → answer_to c s ≡ 0 → Own g cs s → ¬ Done (play driver cs s).done (here c)
      → (answer_to c (play driver cs s) ≡ 0) × (samples_of c (play driver cs s).planes ≡ samples_of c s.planes)
  lasts c own cs s =
      subst (λ d. answer_to d s ≡ 0 → Own g cs s → ¬ Done (play driver cs s).done (here c)
      → (answer_to d (play driver cs s) ≡ 0) × (samples_of d (play driver cs s).planes ≡ samples_of d s.planes)) (sym own)
      (λ e o u. ((lasting g).still (here c) cs s e u, (lasting g).same (here c) cs s e o))

  good_run : (cs : List Call) (s : Lent) → Own g cs s → (c : Call) (block : List ℕ) → GoodResult s c block → GoodResult (play driver cs s) c block
  good_run cs s o c block k = record {
    own = k.own;
    fresh = λ u.
        let f = k.fresh (λ d. u (done_kept (fair (length s.done)) cs s (here c) refl d)) in
        let l = lasts c k.own cs s f.0 o u in
        (l.0, l.1 ∙ f.1);
  }

  -- ---- a work is a run of none or one whole call
  abbrev Calls : Lent → Lent → Type 0
  Calls s t = (cs : List Call) × Own g cs s × (t ≡ play driver cs s)

  good_after : (w : Shared) (t : Lent) → AllGood w → Calls w.lent t → AllGood (record { lent = t; results = w.results })
  good_after w t k (cs, o, is) c block n = subst (λ u. GoodResult u c block) (sym is) (good_run cs w.lent o c block (k c block n))

  commit_calls : (c : Call) (block : List ℕ) (w : Shared) → AllGood w → OwnWork g (commit c block) w → Calls w.lent (after_commit c block w.lent)
  commit_calls c block w k o = go (commit_answer c block w.lent) refl
    where
      go : (r : ℕ) → commit_answer c block w.lent ≡ r → Calls w.lent (written r w.lent (committed c block w.lent))
      go zero e =
          let good = k c block (o e) in
          let f = good.fresh (commit_undone c block w.lent e) in
          (c ∷ [], ((λ _. good.own), tt), ap (λ b. committed c b w.lent) (sym f.1) ∙ at_once c w.lent f.0)
      go (suc r) e = ([], tt, refl)

  work_calls : (k : Work) (w : Shared) → AllGood w → OwnWork g k w → Calls w.lent (next k w).lent
  work_calls (compute c block) w a o = ([], tt, refl)
  work_calls (commit c block) w a o = commit_calls c block w a o
  work_calls (whole c) w a o = (c ∷ [], (o, tt), refl)

  work_good : (k : Work) (w : Shared) → AllGood w → OwnWork g k w → AllGood (next k w)
  work_good (compute c block) w a o = go (compute_answer c block w.lent) refl
    where
      new : Result
      new = record { call = c; block = samples_of c w.lent.planes }

      newest : c ≡ offer g (here c) → answer_to c w.lent ≡ 0 → AllGood (record { lent = w.lent; results = new ∷ w.results })
      newest own e d b (inr n) = a d b n
      newest own e d b (inl (is, same)) = rw (← is, ← same) (record { own = own; fresh = λ u. (e, refl) })

      go : (r : ℕ) → compute_answer c block w.lent ≡ r → AllGood (record { lent = w.lent; results = written r w.results (new ∷ w.results) })
      go zero e = newest (o e) (compute_accepted c block w.lent e)
      go (suc r) e = a
  work_good (commit c block) w a o = good_after w (after_commit c block w.lent) a (commit_calls c block w a o)
  work_good (whole c) w a o = good_after w (after driver c w.lent) a (c ∷ [], (o, tt), refl)

  -- one work after the other
  calls_then : (r s t : Lent) → Calls r s → Calls s t → Calls r t
  calls_then r s t (cs, o, is) (ds, u, at) =
      (cs ++ ds, own_append g cs ds r o (subst (Own g ds) is u), at ∙ ap (play driver ds) is ∙ sym (play_append driver cs ds r))

  all_works : (ks : List Work) (w : Shared) → AllGood w → AllOwn g ks w → Calls w.lent (go_on ks w).lent × AllGood (go_on ks w)
  all_works [] w a o = (([], tt, refl), a)
  all_works (k ∷ ks) w a o =
      let m = all_works ks (next k w) (work_good k w a o.0) o.1 in
      (calls_then w.lent (next k w).lent (go_on ks (next k w)).lent (work_calls k w a o.0) m.0, m.1)

  -- ---- workers on a started picture
  module _ (ks : List Work) (s : Lent) (k : Worked g ks s) where
    went : Calls (started g s) (worked g ks s).lent × AllGood (worked g ks s)
    went = all_works ks (record { lent = started g s; results = [] }) (λ c block n. absurd n) k.own

    -- what holds of every run holds of what they leave
    by_run : (P : Lent → Type 0) → ((cs : List Call) → Own g cs (started g s) → P (run g cs s)) → P (worked g ks s).lent
    by_run P f = let (cs, own, is) = went.0 in subst P (sym is) (f cs own)

    accepted : (c : Call) (block : List ℕ) → Among (worked g ks s).results c block → ¬ Done (worked g ks s).lent.done (here c)
        → commit_answer c block (worked g ks s).lent ≡ 0
    accepted c block n u =
        let t = (worked g ks s).lent in
        let f = (went.1 c block n).fresh u in
        commit_accepts c block t (ap length (sym f.1) ∙ in_two.long c t.planes) f.0

    never_stuck : (a : ℕ) → First (total_of g) (worked g ks s).lent.done a → Acceptable (offer g a) → (block : List ℕ) → length block ≡ 384
        → compute_answer (offer g a) block (worked g ks s).lent ≡ 0
    never_stuck a f ok block long =
        in_two.same_answer (offer g a) block (worked g ks s).lent long
        ∙ by_run (λ t. First (total_of g) t.done a → answer_to (offer g a) t ≡ 0) (λ cs own f. (any_order g).first_accepted cs s k.lends a f ok) f

  -- ---- one worker: where no whole call would be refused, its halves do what the whole calls do
  in_turn_lem : (block : List ℕ) → length block ≡ 384 → (o : List ℕ) (w : Shared) → answers driver (map (offer g) o) w.lent ≡ replicate (length o) 0
      → (in_turn g block o w).lent ≡ play driver (map (offer g) o) w.lent
  in_turn_lem block long [] w e = refl
  in_turn_lem block long (a ∷ o) w e =
      in_turn_lem block long o (go_on (compute (offer g a) block ∷ commit (offer g a) (left g block a w) ∷ []) w)
      (subst (λ t. answers driver (map (offer g) o) t ≡ replicate (length o) 0) (sym f) (tail-eq_of_cons-eq e))
      ∙ ap (play driver (map (offer g) o)) f
    where
      f : after_commit (offer g a) (left g block a w) w.lent ≡ after driver (offer g a) w.lent
      f =
          let z = head-eq_of_cons-eq e in
          ap (λ b. after_commit (offer g a) b w.lent) (put block _ (in_two.same_answer (offer g a) block w.lent long ∙ z))
          ∙ put w.lent _ (in_two.accepts (offer g a) w.lent z) ∙ at_once (offer g a) w.lent z

  -- what the others left
  module _ (ks : List Work) (s : Lent) (k : Worked g ks s) (ok : RestAcceptable g (worked g ks s).lent.done) (block : List ℕ) (long : length block ≡ 384) where
    abbrev cs : List Call
    cs = (went ks s k).0.0

    is : (worked g ks s).lent ≡ run g cs s
    is = (went ks s k).0.2

    rest_ok : RestAcceptable g (run g cs s).done
    rest_ok = subst (λ t. RestAcceptable g t.done) is ok

    ends : (closed g block (worked g ks s)).lent ≡ play driver (rest g (run g cs s).done) (run g cs s)
    ends =
        in_turn_lem block long (undone_from 0 (worked g ks s).lent.done) (worked g ks s)
        (subst (λ t. answers driver (rest g t.done) t ≡ replicate (length (undone_from 0 t.done)) 0) (sym is)
        ((any_order g).rest_accepted cs s k.lends rest_ok))
        ∙ ap (λ t. play driver (rest g t.done) t) is

    closes : AllDone (total_of g) (closed g block (worked g ks s)).lent.done
        × ((p : Plane) → (closed g block (worked g ks s)).lent.planes p ≡ decoded g s.planes p)
    closes = (
      (λ a h. subst (λ t. Done t.done a) (sym ends) ((any_order g).rest_done cs s k.lends rest_ok a h)),
      (λ p. ap (λ t. t.planes p) ends ∙ (any_order g).rest_right cs s k.lends rest_ok (went ks s k).0.1 p),
    )

pub workers : (g : Picture) → Workers g
workers g = record {
  as_run = λ ks s k. (went g ks s k).0;
  finished = λ ks s k.
      by_run g ks s k (λ t. AllDone (total_of g) t.done → (p : Plane) → t.planes p ≡ decoded g s.planes p)
      (λ cs own. (any_order g).finished cs s k.lends own);
  padding = λ ks s k.
      by_run g ks s k (λ t. (i : Location) → ¬ InPicture g i → sample_at t.planes i ≡ sample_at s.planes i)
      (λ cs own. (any_order g).padding cs s k.lends own);
  final = λ ks s k.
      by_run g ks s k (λ t. (a : ℕ) → a < total_of g → Done t.done a → Alike sample_at (Region g a) t.planes (decoded g s.planes))
      (λ cs own. (any_order g).final cs s k.lends own);
  counted = λ ks s k. by_run g ks s k (λ t. t.progress.count ≡ ones t.done) (λ cs own. (any_order g).counted cs s k.lends);
  full = λ ks s k. by_run g ks s k (λ t. t.progress.count ≡ total_of g → AllDone (total_of g) t.done) (λ cs own. (any_order g).full cs s k.lends);
  accepted = accepted g;
  never_stuck = never_stuck g;
  closes = closes g;
}
