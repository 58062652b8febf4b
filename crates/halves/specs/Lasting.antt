-- A result lasts: computed in state s, it is right as long as its macroblock is undone, whatever calls come meanwhile, those that are accepted with their own
-- records.
use Rattle.std.specs.Prelude.{◌≡◌, List, ℕ}
use Rattle.order.specs.Driver.{play}
use Rattle.order.specs.Order.{Done}
use Rattle.calls.specs.Rebuild.{Call, Lent, answer_to, rebuilt}
use Rattle.calls.specs.Run.{Picture, offer, driver, Own}
use Rattle.halves.specs.Halves.{samples_of, commit_answer, committed}

pub record Lasting (g : Picture) : Type 0 where
  -- the call would be accepted now, whatever calls came, and give the same samples
  pub still : (a : ℕ) (cs : List Call) (s : Lent) → answer_to (offer g a) s ≡ 0 → ¬ Done (play driver cs s).done a → answer_to (offer g a) (play driver cs s) ≡ 0
  pub same : (a : ℕ) (cs : List Call) (s : Lent) → answer_to (offer g a) s ≡ 0 → Own g cs s
      → samples_of (offer g a) (play driver cs s).planes ≡ samples_of (offer g a) s.planes
  -- so the old result is accepted, and leaves what the whole call would leave now
  pub accepted : (a : ℕ) (cs : List Call) (s : Lent) → answer_to (offer g a) s ≡ 0 → ¬ Done (play driver cs s).done a
      → commit_answer (offer g a) (samples_of (offer g a) s.planes) (play driver cs s) ≡ 0
  pub stale : (a : ℕ) (cs : List Call) (s : Lent) → answer_to (offer g a) s ≡ 0 → Own g cs s → ¬ Done (play driver cs s).done a
      → committed (offer g a) (samples_of (offer g a) s.planes) (play driver cs s) ≡ rebuilt (offer g a) (play driver cs s)
