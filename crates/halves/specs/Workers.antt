-- Workers on several cores: each computes when it likes, and commits what was computed at some earlier time, by itself or by another.
use Rattle.std.specs.Prelude.{◌≡◌, ◌⊎◌, List, [], ◌∷◌, ℕ, ◌<◌, length}
use Rattle.laws.specs.Answer.{written}
use Rattle.order.specs.Driver.{after}
use Rattle.order.specs.Order.{Alike, Done, AllDone, First, undone_from, ones}
use Rattle.calls.specs.Planes.{Plane}
use Rattle.calls.specs.Rebuild.{Call, Lent, here, Acceptable, answer_to}
use Rattle.calls.specs.Run.{Picture, total_of, offer, RestAcceptable, Lends, decoded, Location, sample_at, Region, InPicture, driver, started, run, Own}
use Rattle.halves.specs.Halves.{samples_of, compute_answer, commit_answer, after_commit}

-- what a compute call gave, and for which call
pub record Result : Type 0 where
  pub call : Call
  pub block : List ℕ

-- what is lent, and all results so far
pub record Shared : Type 0 where
  pub lent : Lent
  pub results : List Result

-- ---- what workers do, one after the other as the lock orders it: compute into a block, commit a block, or make a whole call
pub data Work : Type 0 where
  compute : Call → List ℕ → Work
  commit : Call → List ℕ → Work
  whole : Call → Work

-- compute leaves all that is lent, and where it is refused it gives no result
abbrev pub next : Work → Shared → Shared
next (compute c block) w = record {
  lent = w.lent;
  results = written (compute_answer c block w.lent) w.results (record { call = c; block = samples_of c w.lent.planes } ∷ w.results);
}
next (commit c block) w = record { lent = after_commit c block w.lent; results = w.results }
next (whole c) w = record { lent = after driver c w.lent; results = w.results }

abbrev pub go_on : List Work → Shared → Shared
go_on [] w = w
go_on (k ∷ ks) w = go_on ks (next k w)

-- ---- whatever is refused may have had any arguments. An accepted compute or whole call carries what is fixed, and its macroblock's own record; an accepted
-- commit has a result so far
abbrev pub Among : List Result → Call → List ℕ → Type 0
Among [] c block = ⊥
Among (r ∷ rs) c block = ((r.call ≡ c) × (r.block ≡ block)) ⊎ Among rs c block

abbrev pub OwnWork : Picture → Work → Shared → Type 0
OwnWork g (compute c block) w = compute_answer c block w.lent ≡ 0 → c ≡ offer g (here c)
OwnWork g (commit c block) w = commit_answer c block w.lent ≡ 0 → Among w.results c block
OwnWork g (whole c) w = answer_to c w.lent ≡ 0 → c ≡ offer g (here c)

abbrev pub AllOwn : Picture → List Work → Shared → Type 0
AllOwn g [] w = Unit {0}
AllOwn g (k ∷ ks) w = OwnWork g k w × AllOwn g ks (next k w)

-- ---- the picture is started, there are no results, and then the workers come
abbrev pub worked : Picture → List Work → Lent → Shared
worked g ks s = go_on ks (record { lent = started g s; results = [] })

pub record Worked (g : Picture) (ks : List Work) (s : Lent) : Type 0 where
  pub lends : Lends g s
  pub own : AllOwn g ks (record { lent = started g s; results = [] })

-- ---- a single worker that takes macroblocks one after the other: what compute leaves in its block is committed at once
abbrev pub left : Picture → List ℕ → ℕ → Shared → List ℕ
left g block a w = written (compute_answer (offer g a) block w.lent) block (samples_of (offer g a) w.lent.planes)

abbrev pub in_turn : Picture → List ℕ → List ℕ → Shared → Shared
in_turn g block [] w = w
in_turn g block (a ∷ o) w = in_turn g block o (go_on (compute (offer g a) block ∷ commit (offer g a) (left g block a w) ∷ []) w)

-- what was undone when the others left, by address
abbrev pub closed : Picture → List ℕ → Shared → Shared
closed g block w = in_turn g block (undone_from 0 w.lent.done) w

pub record Workers (g : Picture) : Type 0 where
  -- ---- the right picture
  -- however the halves are mixed, they leave what some run of whole calls leaves
  pub as_run : (ks : List Work) (s : Lent) → Worked g ks s → (cs : List Call) × Own g cs (started g s) × ((worked g ks s).lent ≡ run g cs s)
  -- so a finished picture is the right one, padding is untouched, a macroblock that is done is final, and the count is the ones in the map
  pub finished : (ks : List Work) (s : Lent) → Worked g ks s → AllDone (total_of g) (worked g ks s).lent.done
      → (p : Plane) → (worked g ks s).lent.planes p ≡ decoded g s.planes p
  pub padding : (ks : List Work) (s : Lent) → Worked g ks s → (i : Location) → ¬ InPicture g i
      → sample_at (worked g ks s).lent.planes i ≡ sample_at s.planes i
  pub final : (ks : List Work) (s : Lent) → Worked g ks s → (a : ℕ) → a < total_of g → Done (worked g ks s).lent.done a
      → Alike sample_at (Region g a) (worked g ks s).lent.planes (decoded g s.planes)
  pub counted : (ks : List Work) (s : Lent) → Worked g ks s → (worked g ks s).lent.progress.count ≡ ones (worked g ks s).lent.done
  pub full : (ks : List Work) (s : Lent) → Worked g ks s → (worked g ks s).lent.progress.count ≡ total_of g
      → AllDone (total_of g) (worked g ks s).lent.done
  -- ---- no work is in vain, and nobody gets stuck
  -- a result is accepted as long as its macroblock is undone
  pub accepted : (ks : List Work) (s : Lent) → Worked g ks s → (c : Call) (block : List ℕ) → Among (worked g ks s).results c block
      → ¬ Done (worked g ks s).lent.done (here c) → commit_answer c block (worked g ks s).lent ≡ 0
  -- the first undone macroblock, with its own acceptable record, can be computed, whatever the others do
  pub never_stuck : (ks : List Work) (s : Lent) → Worked g ks s → (a : ℕ) → First (total_of g) (worked g ks s).lent.done a → Acceptable (offer g a)
      → (block : List ℕ) → length block ≡ 384 → compute_answer (offer g a) block (worked g ks s).lent ≡ 0
  -- so one worker can finish what the others left, the records acceptable, and the picture is the right one
  pub closes : (ks : List Work) (s : Lent) → Worked g ks s → RestAcceptable g (worked g ks s).lent.done → (block : List ℕ) → length block ≡ 384
      → AllDone (total_of g) (closed g block (worked g ks s)).lent.done
      × ((p : Plane) → (closed g block (worked g ks s)).lent.planes p ≡ decoded g s.planes p)
