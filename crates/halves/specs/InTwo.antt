-- The two halves are the whole call, and what compute reads of the planes are samples that touch the macroblock.
use Rattle.std.specs.Prelude.{◌≡◌, List, ℕ, length}
use Rattle.moved.specs.Moved.{Site, SameAround}
use Rattle.calls.specs.Planes.{Plane, side}
use Rattle.calls.specs.Rebuild.{Call, Lent, marks, answer_to, rebuilt}
use Rattle.calls.specs.Run.{Planes}
use Rattle.halves.specs.Halves.{samples_of, compute_answer, commit_answer, committed}

-- where a call's macroblock stands in a plane
abbrev pub site_of : Call → Planes → Plane → Site
site_of c planes p = record { stride = c.stride p; x = c.x; y = c.y; plane = planes p }

pub record InTwo : Type 0 where
  -- over a block of 384 samples compute answers as the whole call does, and it leaves as many
  pub same_answer : (c : Call) (block : List ℕ) (s : Lent) → length block ≡ 384 → compute_answer c block s ≡ answer_to c s
  pub long : (c : Call) (planes : Planes) → length (samples_of c planes) ≡ 384
  -- commit at once is accepted, and then the two leave what the whole call leaves: planes, done map and progress record
  pub accepts : (c : Call) (s : Lent) → answer_to c s ≡ 0 → commit_answer c (samples_of c s.planes) s ≡ 0
  pub whole : (c : Call) (s : Lent) → answer_to c s ≡ 0 → committed c (samples_of c s.planes) s ≡ rebuilt c s
  -- planes that show the same around the macroblock, in its available neighbours, give the same samples, whatever they hold elsewhere
  pub reads : (c : Call) (s : Lent) → answer_to c s ≡ 0 → (other : Planes) → ((p : Plane) → length (other p) ≡ length (s.planes p))
      → ((p : Plane) → SameAround (side p) (marks c) (site_of c s.planes p) (site_of c other p)) → samples_of c s.planes ≡ samples_of c other
