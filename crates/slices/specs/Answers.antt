-- A lost slice does not spoil the others: a call is answered by the done marks of its own slice only, and what comes for other slices never changes that.
use Rattle.std.specs.Prelude.{◌≡◌, true, cond, List, [], ◌∷◌, ℕ, ◌<◌, T, eqb, get_or, length}
use Rattle.order.specs.Driver.{after, play, answers}
use Rattle.maps.specs.Done.{is_done}
use Rattle.maps.specs.Neighbours.{Side, beside}
use Rattle.maps.specs.Progress.{accepted_of}
use Rattle.maps.specs.Size.{total}
use Rattle.maps.specs.declared.progress.Progress.{Progress}
use Rattle.macroblock.specs.Square.{in_block}
use Rattle.calls.specs.Planes.{Plane, side}
use Rattle.calls.specs.Rebuild.{Call, Lent, here, marks, waits_for, answer_to}
use Rattle.calls.specs.Run.{Picture, driver}
use Rattle.slices.specs.LostSlice.{InSlice}

-- macroblock b of the call's picture is in the call's slice
abbrev pub SameSlice : Call → ℕ → Type 0
SameSlice c b = get_or c.slices b 0 ≡ get_or c.slices (here c) 0

-- the calls are for macroblocks of other slices; all else of them is any
abbrev pub Foreign : Call → List Call → Type 0
Foreign c [] = Unit {0}
Foreign c (d ∷ ds) = ¬ SameSlice c (here d) × Foreign c ds

-- ---- the calls of slice σ in a run, the others left out
abbrev pub calls_in : List ℕ → ℕ → List Call → List Call
calls_in slices σ [] = []
calls_in slices σ (c ∷ cs) = cond (eqb (get_or slices (here c) 0) σ) (c ∷ calls_in slices σ cs) (calls_in slices σ cs)

-- and their answers among the run's
abbrev pub answers_in : List ℕ → ℕ → List Call → Lent → List ℕ
answers_in slices σ [] s = []
answers_in slices σ (c ∷ cs) s =
    let rest = answers_in slices σ cs (after driver c s) in cond (eqb (get_or slices (here c) 0) σ) (answer_to c s ∷ rest) rest

-- the calls of slice σ have the picture's size and slice map; their strides and records are any, and so is all of the other calls
abbrev pub OfPicture : Picture → ℕ → List Call → Type 0
OfPicture g σ [] = Unit {0}
OfPicture g σ (c ∷ cs) =
    (get_or g.slices (here c) 0 ≡ σ → (c.width ≡ g.width) × (c.height ≡ g.height) × (c.slices ≡ g.slices)) × OfPicture g σ cs

pub record Answers : Type 0 where
  -- ---- a call looks at its own slice
  -- a call, its record included, is answered alike where the done marks within its slice, the lent sizes and the progress records are equal
  pub same_answer : (c : Call) (s s' : Lent) → ((b : ℕ) → b < total c.width c.height → SameSlice c b → is_done s.done b ≡ is_done s'.done b)
      → ((p : Plane) → length (s.planes p) ≡ length (s'.planes p)) → length s.done ≡ length s'.done → s.progress ≡ s'.progress
      → answer_to c s ≡ answer_to c s'
  -- for its neighbours end at the slice's border: one that it reads or waits for is in its slice
  pub reads_own : (c : Call) (k : Side) → marks c k ≡ true → SameSlice c (beside c.width c.x c.y k)
  pub waits_own : (c : Call) (k : Side) → waits_for c k ≡ true → SameSlice c (beside c.width c.x c.y k)
  -- ---- what comes for other slices
  -- whatever is offered there, taken or refused, a call's answer stays what it was: it is neither more nor less ready
  pub unmoved : (c : Call) (ds : List Call) (s : Lent) → Foreign c ds → answer_to c (play driver ds s) ≡ answer_to c s
  -- a slice's calls are answered as if the others' had never come, and leave the same done marks in it
  pub alone : (g : Picture) (σ : ℕ) (cs : List Call) (s : Lent) → OfPicture g σ cs → answers_in g.slices σ cs s ≡ answers driver (calls_in g.slices σ cs) s
  pub alone_marks : (g : Picture) (σ : ℕ) (cs : List Call) (s : Lent) → OfPicture g σ cs → (b : ℕ) → InSlice g σ b
      → is_done (play driver cs s).done b ≡ is_done (play driver (calls_in g.slices σ cs) s).done b
  -- ---- what one call can touch, whatever it carries: the samples of its own macroblock, by its own strides, and its own done mark
  pub other_samples : (c : Call) (s : Lent) (p : Plane) (i : ℕ) → ¬ T (in_block (side p) (c.stride p) c.y c.x i)
      → get_or ((after driver c s).planes p) i 0 ≡ get_or (s.planes p) i 0
  pub other_marks : (c : Call) (s : Lent) (b : ℕ) → ¬ (b ≡ here c) → get_or (after driver c s).done b 0 ≡ get_or s.done b 0
  -- ---- what is shared: the progress record. An accepted call of any slice moves it, and a count that is lent above W * H refuses a call of any slice
  pub shared_progress : (c : Call) (s : Lent) → answer_to c s ≡ 0
      → (after driver c s).progress ≡ accepted_of s.progress (here c) (total c.width c.height)
  pub count_asked : (c : Call) (s : Lent) (p : Progress) → answer_to c s ≡ 0 → total c.width c.height < p.count
      → answer_to c (record { planes = s.planes; done = s.done; progress = p }) ≡ 2
