-- A macroblock call in two halves. Compute only reads what a picture is made of, and puts the macroblock's samples into a block of its own; commit puts such
-- a block into the planes and marks the macroblock.
use Rattle.std.specs.Prelude.{◌≡◌, Bool, ◌&&◌, List, [], ◌∷◌, ◌++◌, ℕ, ◌+◌, ◌*◌, eqb, get_or, length, set}
use Rattle.laws.specs.Answer.{Check, answer, written}
use Rattle.laws.specs.Table.{block_of}
use Rattle.maps.specs.Progress.{accepted_of}
use Rattle.maps.specs.Size.{total}
use Rattle.macroblock.specs.Rules.{lists_good, known_rule, permitted_rule, numbers_rule}
use Rattle.macroblock.specs.Square.{place_at, put_block}
use Rattle.calls.specs.Planes.{Plane, three, side}
use Rattle.calls.specs.Planes.Plane.{luma, cb, cr}
use Rattle.calls.specs.Rebuild.{Call, Lent, here, marks, neighbours_rule, open_rules, square_in}
use Rattle.calls.specs.Run.{Planes}

-- ---- a block: 384 samples, the luma square row by row, then that of Cb and that of Cr
abbrev pub block_good : List ℕ → Bool
block_good block = eqb (length block) 384

-- where a plane's square begins in it, and its sample in column i and row j of that square
abbrev pub start_of : Plane → ℕ
start_of = three 0 256 320

abbrev pub sample_of : List ℕ → Plane → (i j : ℕ) → ℕ
sample_of block p i j = get_or block (start_of p + (j * side p + i)) 0

-- the block with these samples
abbrev pub block_by : (Plane → (i j : ℕ) → ℕ) → List ℕ
block_by f = block_of (side luma) (f luma) ++ (block_of (side cb) (f cb) ++ block_of (side cr) (f cr))

-- ---- compute
-- the sample that a call leaves in column i and row j of its square in a plane
abbrev pub sample_left : Call → Planes → Plane → (i j : ℕ) → ℕ
sample_left c planes p i j = get_or (square_in c p (planes p)) ((c.y * side p + j) * c.stride p + (c.x * side p + i)) 0

unfoldable pub samples_of : Call → Planes → List ℕ
samples_of c planes = block_by (sample_left c planes)

-- its table of refusals is the whole call's, and the block is among the lists
abbrev pub compute_rules : Call → List ℕ → Lent → List Check
compute_rules c block s =
    open_rules c s (block_good block && lists_good c.mb)
    ++ (known_rule c.mb ∷ permitted_rule (marks c) c.mb ∷ neighbours_rule c s ∷ numbers_rule c.mb ∷ [])

abbrev pub compute_answer : Call → List ℕ → Lent → ℕ
compute_answer c block s = answer (compute_rules c block s)

-- compute's promise: its answer r, and the block that it was lent, before it and after it. It is lent nothing else that it may change, and a refused one
-- leaves the block as it was
pub record Computes (c : Call) (s : Lent) (before : List ℕ) (r : ℕ) (after : List ℕ) : Type 0 where
  pub answers : r ≡ compute_answer c before s
  pub leaves : after ≡ written r before (samples_of c s.planes)

-- ---- commit
-- the rules before a record is looked at, and the block is the list
abbrev pub commit_answer : Call → List ℕ → Lent → ℕ
commit_answer c block s = answer (open_rules c s (block_good block))

-- a plane with the block's square put into it
abbrev pub put_in : Call → List ℕ → Plane → List ℕ → List ℕ
put_in c block p plane = put_block (side p) (place_at (c.stride p) c.y c.x) (sample_of block p) plane

-- all that an accepted one leaves
abbrev pub committed : Call → List ℕ → Lent → Lent
committed c block s = record {
  planes = λ p. put_in c block p (s.planes p);
  done = set s.done (here c) 1;
  progress = accepted_of s.progress (here c) (total c.width c.height);
}

abbrev pub after_commit : Call → List ℕ → Lent → Lent
after_commit c block s = written (commit_answer c block s) s (committed c block s)

-- commit's promise: its answer r, and all that it was lent, before it s and after it t. Of the call it knows all but the record
pub record Commits (c : Call) (block : List ℕ) (s : Lent) (r : ℕ) (t : Lent) : Type 0 where
  pub answers : r ≡ commit_answer c block s
  pub leaves : t ≡ written r s (committed c block s)
