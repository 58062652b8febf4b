-- A lost slice does not spoil the others: the samples of a slice follow from that slice's records, whatever comes for the others, in whatever order.
use Rattle.std.specs.Prelude.{◌≡◌, List, [], ◌∷◌, ℕ, ◌+◌, ◌*◌, ◌/◌, ◌%◌, ◌<◌, get_or}
use Rattle.order.specs.Driver.{after, play}
use Rattle.order.specs.Order.{Alike, Done, AllDone}
use Rattle.macroblock.specs.declared.Record.{Record}
use Rattle.calls.specs.Planes.{Plane, side}
use Rattle.calls.specs.Rebuild.{Call, Lent, here, Acceptable, answer_to}
use Rattle.calls.specs.Run.{Picture, total_of, offer, Lends, Planes, decoded, Location, sample_at, Region, driver, started, run, Own}

-- macroblock a is one of slice σ
abbrev pub InSlice : Picture → ℕ → ℕ → Type 0
InSlice g σ a = (a < total_of g) × (get_or g.slices a 0 ≡ σ)

-- ---- two pictures that share a slice
-- their size and slice map are the same, and their records agree in slice σ: they may differ anywhere else, and so may their strides
pub record ShareSlice (σ : ℕ) (g g' : Picture) : Type 0 where
  pub same_width : g.width ≡ g'.width
  pub same_height : g.height ≡ g'.height
  pub same_slices : g.slices ≡ g'.slices
  pub same_records : (a : ℕ) → InSlice g σ a → g.records a ≡ g'.records a

-- the location of the sample in column i and row j of macroblock a
abbrev pub location_of : Picture → ℕ → Plane → (i j : ℕ) → Location
location_of g a p i j = (p, (a / g.width * side p + j) * g.stride p + (a % g.width * side p + i))

-- macroblock a holds the same samples in both, by column and row
abbrev pub SameSamples : Picture → Picture → Planes → Planes → ℕ → Type 0
SameSamples g g' now then a = (p : Plane) (i j : ℕ) → i < side p → j < side p → sample_at now (location_of g a p i j) ≡ sample_at then (location_of g' a p i j)

-- a run of each picture: any calls in any order, over planes that are large enough and hold anything; each accepted call carries its macroblock's own record
pub record LostSlice (σ : ℕ) (g g' : Picture) : Type 0 where
  -- if both finish, that slice's samples are equal
  pub finished : (cs cs' : List Call) (s s' : Lent) → Lends g s → Lends g' s' → Own g cs (started g s) → Own g' cs' (started g' s')
      → AllDone (total_of g) (run g cs s).done → AllDone (total_of g') (run g' cs' s').done
      → (a : ℕ) → InSlice g σ a → SameSamples g g' (run g cs s).planes (run g' cs' s').planes a
  -- and half way those of each of its macroblocks that is done in both
  pub half_way : (cs cs' : List Call) (s s' : Lent) → Lends g s → Lends g' s' → Own g cs (started g s) → Own g' cs' (started g' s')
      → (a : ℕ) → InSlice g σ a → Done (run g cs s).done a → Done (run g' cs' s').done a
      → SameSamples g g' (run g cs s).planes (run g' cs' s').planes a
  -- with the same strides these are the same bytes of the planes
  pub bytes : ((p : Plane) → g.stride p ≡ g'.stride p) → (now then : Planes) (a : ℕ) → SameSamples g g' now then a → Alike sample_at (Region g a) now then

-- ---- one picture, with anything for the other slices
-- macroblock a, offered with any record
abbrev pub offer_with : Picture → ℕ → Record → Call
offer_with g a r = record { width = g.width; height = g.height; x = a % g.width; y = a / g.width; stride = g.stride; slices = g.slices; mb = r }

-- each call that is accepted carries what is fixed of the picture; for a macroblock of slice σ also that macroblock's own record, for any other any record
abbrev pub OwnIn : ℕ → Picture → List Call → Lent → Type 0
OwnIn σ g [] s = Unit {0}
OwnIn σ g (c ∷ cs) s =
    (answer_to c s ≡ 0 → (c ≡ offer_with g (here c) c.mb) × (get_or g.slices (here c) 0 ≡ σ → c.mb ≡ g.records (here c)))
    × OwnIn σ g cs (after driver c s)

-- the same, and none of them is for slice σ
abbrev pub Elsewhere : ℕ → Picture → List Call → Lent → Type 0
Elsewhere σ g [] s = Unit {0}
Elsewhere σ g (c ∷ cs) s =
    (answer_to c s ≡ 0 → (c ≡ offer_with g (here c) c.mb) × ¬ (get_or g.slices (here c) 0 ≡ σ)) × Elsewhere σ g cs (after driver c s)

-- a is the first macroblock of the slice that a map leaves undone
pub record FirstIn (g : Picture) (σ : ℕ) (done : List ℕ) (a : ℕ) : Type 0 where
  pub inside : InSlice g σ a
  pub undone : ¬ Done done a
  pub below : (b : ℕ) → b < a → InSlice g σ b → Done done b

pub record AmongOthers (σ : ℕ) (g : Picture) : Type 0 where
  -- a macroblock of the slice that is done is final: it holds what decoding the picture by the standard gives there
  pub final : (cs : List Call) (s : Lent) → Lends g s → OwnIn σ g cs (started g s) → (a : ℕ) → InSlice g σ a → Done (run g cs s).done a
      → Alike sample_at (Region g a) (run g cs s).planes (decoded g s.planes)
  -- calls for other slices change no sample of it and no mark
  pub untouched : (cs : List Call) (s : Lent) → Elsewhere σ g cs s → (a : ℕ) → InSlice g σ a
      → Alike sample_at (Region g a) (play driver cs s).planes s.planes × (get_or (play driver cs s).done a 0 ≡ get_or s.done a 0)
  -- and it never gets stuck: after any run, whatever was offered, refused or abandoned, its first undone macroblock is accepted with its own acceptable record
  pub goes_on : (cs : List Call) (s : Lent) → Lends g s → (a : ℕ) → FirstIn g σ (run g cs s).done a → Acceptable (offer g a)
      → answer_to (offer g a) (run g cs s) ≡ 0
