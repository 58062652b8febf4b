-- The two halves are the whole call: over a good block they ask its rules, and the samples put back are its squares. Assumes nothing.
use mathlib.Core.Path.{◌≡◌, sym, ap, subst, ◌∙◌}
use mathlib.Core.Bool.{true, ◌&&◌}
use mathlib.Core.List.{List, [], ◌∷◌}
use Prim.Native.Nat.{ℕ, ◌<◌}
use lib.ListN.{length}
use borrow.Author.Tests.{eqb-true, eq-eqb}
use Rattle.laws.specs.Answer.{answer}
use Rattle.laws.proofs.Answers.{earlier_hold}
use Rattle.laws.proofs.Tests.{and_left}
use Rattle.order.specs.Order.{Done}
use Rattle.maps.proofs.Waiting.{undone_is}
use Rattle.macroblock.specs.Rules.{room, lists_good, known_rule, permitted_rule, numbers_rule}
use Rattle.moved.specs.Moved.{Site, SameAround, HasRoom, square_at}
use Rattle.moved.proofs.Moved.{moved}
use Rattle.calls.specs.Planes.{Plane, side}
use Rattle.calls.specs.Planes.Plane.{luma, cb, cr}
use Rattle.calls.specs.Rebuild.{Call, Lent, here, marks, neighbours_rule, rules, answer_to, open_rules, first_rules, square_in, rebuilt}
use Rattle.calls.specs.Run.{Planes}
use Rattle.calls.proofs.OnePicture.{accepted_passed}
use Rattle.calls.proofs.Rules.{opened_is, Passed, passed_0, first_0}
use Rattle.calls.proofs.Squares.{square_room, side_pos}
use Rattle.halves.specs.Halves.{block_good, samples_of, compute_answer, commit_answer, committed}
use Rattle.halves.specs.InTwo.{site_of, InTwo}
use Rattle.halves.proofs.Samples.{same_block, samples_long, samples_at, put_back}

-- ---- the answers
pub commit_undone : (c : Call) (block : List ℕ) (s : Lent) → commit_answer c block s ≡ 0 → ¬ Done s.done (here c)
commit_undone c block s e = undone_is s.done (here c) (opened_is c s (block_good block) e).undone

-- over a block of 384 samples compute answers as the whole call does
same_answer : (c : Call) (block : List ℕ) (s : Lent) → length block ≡ 384 → compute_answer c block s ≡ answer_to c s
unfolding rules
same_answer c block s e = rw (eq-eqb (length block) 384 e)

-- what the whole call accepts, commit accepts with any block of 384 samples
pub commit_accepts : (c : Call) (block : List ℕ) (s : Lent) → length block ≡ 384 → answer_to c s ≡ 0 → commit_answer c block s ≡ 0
unfolding first_rules
commit_accepts c block s long e =
    ap (λ b. answer (open_rules c s b)) (eq-eqb (length block) 384 long ∙ sym (accepted_passed c s e).lists) ∙ first_0 c s (passed_0 c s e)

-- what compute accepts, the whole call accepts
pub compute_accepted : (c : Call) (block : List ℕ) (s : Lent) → compute_answer c block s ≡ 0 → answer_to c s ≡ 0
compute_accepted c block s e =
    let late = known_rule c.mb ∷ permitted_rule (marks c) c.mb ∷ neighbours_rule c s ∷ numbers_rule c.mb ∷ [] in
    let opened = opened_is c s (block_good block && lists_good c.mb) (earlier_hold 0 (open_rules c s (block_good block && lists_good c.mb)) late (λ n. n) e) in
    let good = and_left (block_good block) (lists_good c.mb) opened.lists in
    sym (same_answer c block s (eqb-true (length block) 384 good)) ∙ e

-- ---- a call that is accepted
module _ (c : Call) (s : Lent) (e : answer_to c s ≡ 0) where
  passed : Passed c s
  passed = accepted_passed c s e

  whole : committed c (samples_of c s.planes) s ≡ rebuilt c s
  whole =
      ap (λ f. record { planes = f; done = (rebuilt c s).done; progress = (rebuilt c s).progress })
      (λ i p. put_back c s.planes passed.room.planes passed.place p i)

  module _ (other : Planes) (long : (p : Plane) → length (other p) ≡ length (s.planes p))
      (same : (p : Plane) → SameAround (side p) (marks c) (site_of c s.planes p) (site_of c other p)) where
    abbrev u : Plane → Site
    u = site_of c s.planes

    abbrev v : Plane → Site
    v = site_of c other

    room_u : (p : Plane) → HasRoom (side p) (marks c) (u p)
    room_u p =
        square_room (side p) c.width c.height (c.stride p) (length (s.planes p)) c.x c.y (side_pos p) (passed.room.planes p) passed.place
        c.slices

    room_v : (p : Plane) → HasRoom (side p) (marks c) (v p)
    room_v p = subst (λ n. room (side p) n (c.stride p) c.x c.y (marks c) ≡ true) (sym (long p)) (room_u p)

    left : (p : Plane) (i j : ℕ) → i < side p → j < side p
        → square_at (side p) (u p) (square_in c p (s.planes p)) i j ≡ square_at (side p) (v p) (square_in c p (other p)) i j
    left luma = (moved (marks c) c.mb).luma (u luma) (v luma) (room_u luma) (room_v luma) (same luma)
    left cb = (moved (marks c) c.mb).cb (u cb) (v cb) (room_u cb) (room_v cb) (same cb)
    left cr = (moved (marks c) c.mb).cr (u cr) (v cr) (room_u cr) (room_v cr) (same cr)

    reads : samples_of c s.planes ≡ samples_of c other
    reads =
        same_block (samples_of c s.planes) (samples_of c other) (samples_long c s.planes) (samples_long c other)
        (λ p i j hi hj. samples_at c s.planes p i j hi hj ∙ left p i j hi hj ∙ sym (samples_at c other p i j hi hj))

pub in_two : InTwo
in_two = record {
  same_answer = same_answer;
  long = samples_long;
  accepts = λ c s e. commit_accepts c (samples_of c s.planes) s (samples_long c s.planes) e;
  whole = whole;
  reads = reads;
}
