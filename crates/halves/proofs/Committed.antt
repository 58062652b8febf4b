-- Commit's promise, way by way: refused, or accepted. Assumes nothing.
use mathlib.Core.Path.{◌≡◌, sym}
use mathlib.Core.List.{List}
use Prim.Native.Nat.{ℕ}
use lib.ListN.{set}
use Rattle.laws.proofs.Answers.{refused}
use Rattle.maps.specs.Progress.{accepted_of}
use Rattle.maps.specs.Size.{total}
use Rattle.maps.specs.declared.progress.Progress.{Progress}
use Rattle.calls.specs.Planes.Plane.{luma, cb, cr}
use Rattle.calls.specs.Rebuild.{Call, Lent, lent, here}
use Rattle.calls.proofs.Rebuilt.{lent_by}
use Rattle.halves.specs.Halves.{commit_answer, put_in, committed, Commits}

module _ (c : Call) (block : List ℕ) where
  pub commit_refused : (s : Lent) {r : ℕ} → r ≡ commit_answer c block s → ¬ (r ≡ 0) → Commits c block s r s
  commit_refused s {r} e n = record { answers = e; leaves = sym (refused r s (committed c block s) n) }

  pub commit_taken : (s t : Lent) → 0 ≡ commit_answer c block s → t ≡ committed c block s → Commits c block s 0 t
  commit_taken s t e done = record { answers = e; leaves = done }

  -- what it leaves, piece by piece
  pub lent_committed : (l b r d : List ℕ) (p : Progress)
      → lent (put_in c block luma l) (put_in c block cb b) (put_in c block cr r) (set d (here c) 1) (accepted_of p (here c) (total c.width c.height))
      ≡ committed c block (lent l b r d p)
  lent_committed l b r d p = lent_by (put_in c block) l b r (set d (here c) 1) (accepted_of p (here c) (total c.width c.height))
