-- Two states that a slice cannot tell apart stay such: another slice's call marks none of its macroblocks, and its own call is answered alike in both.
-- Assumes nothing.
use mathlib.Core.Path.{◌≡◌, refl, sym, ap, ap₂, subst, ◌∙◌}
use mathlib.Core.Bool.{Bool, true, false, cond, ◌&&◌}
use mathlib.Core.List.{List, [], ◌∷◌}
use Prim.Native.Nat.{ℕ, zero, suc, ◌<◌}
use native.Mathlib.Nat.{lt_trans}
use native.Mathlib.Decide.{ℕ_discrete}
use native.Mathlib.Omega.{arith}
use lib.Dec.{eqb, leb}
use lib.ListN.{get_or, length}
use borrow.Author.Tests.{eqb-true, eqb-false}
use Rattle.laws.proofs.Answers.{kept}
use Rattle.laws.proofs.Tests.{no_from, and_left, and_right, and_same, cond_same}
use Rattle.order.specs.Driver.{after, play, answers}
use Rattle.maps.specs.Done.{is_done, all_settled}
use Rattle.maps.specs.Neighbours.{Side, in_picture, beside}
use Rattle.maps.specs.Size.{total, size_ok, place_ok}
use Rattle.maps.specs.declared.progress.Progress.{Progress}
use Rattle.maps.proofs.Beside.{available_at}
use Rattle.maps.proofs.Sizes.{size_yes, place_is, address_inside}
use Rattle.maps.proofs.Waiting.{settled_same}
use Rattle.macroblock.specs.Rules.{lists_good}
use Rattle.calls.specs.Planes.{Plane, side, plane_ok, room_ok}
use Rattle.calls.specs.Planes.Plane.{luma, cb, cr}
use Rattle.calls.specs.Rebuild.{Call, Lent, here, marks, waits_for, rules, answer_to, rebuilt}
use Rattle.calls.specs.Run.{Picture, driver}
use Rattle.calls.proofs.Available.{waits_available}
use Rattle.calls.proofs.Lending.{LentRoom, room_is}
use Rattle.calls.proofs.OnePicture.{accepted_passed}
use Rattle.slices.specs.Answers.{SameSlice, Foreign, calls_in, answers_in, OfPicture, Answers}
use Rattle.slices.proofs.Leaves.{by_answer, leaves, keeps_bytes, keeps_samples, keeps_long, keeps_mark, mark_here, few_before, few_after}

-- ---- neighbours end at the slice's border
pub reads_own : (c : Call) (k : Side) → marks c k ≡ true → SameSlice c (beside c.width c.x c.y k)
reads_own c k v =
    eqb-true _ _ (and_right (in_picture c.width c.x c.y k) (eqb (get_or c.slices (beside c.width c.x c.y k) 0) (get_or c.slices (here c) 0)) v)

waits_own : (c : Call) (k : Side) → waits_for c k ≡ true → SameSlice c (beside c.width c.x c.y k)
waits_own c k v = reads_own c k (waits_available c k v)

-- ---- two states that slice σ of a picture of n macroblocks cannot tell apart: of the count it is asked only whether it is small enough
record Twin (n : ℕ) (slices : List ℕ) (σ : ℕ) (s t : Lent) : Type 0 where
  marked : (b : ℕ) → b < n → get_or slices b 0 ≡ σ → is_done s.done b ≡ is_done t.done b
  bytes : (p : Plane) → length (s.planes p) ≡ length (t.planes p)
  long : length s.done ≡ length t.done
  few : leb s.progress.count (length s.done) ≡ leb t.progress.count (length t.done)

abbrev TwinFor : Call → Lent → Lent → Type 0
TwinFor c s t = Twin (total c.width c.height) c.slices (get_or c.slices (here c) 0) s t

-- ---- the answer
abbrev room_for : Call → Lent → Bool
room_for c u = room_ok c.width c.height c.stride (λ p. length (u.planes p)) (length u.done) (length c.slices) u.progress.count

module _ (c : Call) (s t : Lent) (w : TwinFor c s t) where
  room_same : room_for c s ≡ room_for c t
  unfolding room_ok
  room_same =
      let n = total c.width c.height in
      let P : Lent → Bool = λ u. plane_ok (side luma) c.width c.height (c.stride luma) (length (u.planes luma))
      && plane_ok (side cb) c.width c.height (c.stride cb) (length (u.planes cb))
      && plane_ok (side cr) c.width c.height (c.stride cr) (length (u.planes cr)) in
      let e : P s && eqb (length s.done) n && eqb (length c.slices) n ≡ P t && eqb (length t.done) n && eqb (length c.slices) n =
      rw (w.bytes luma, w.bytes cb, w.bytes cr, w.long) in
      ap (λ b. b && leb s.progress.count n) e
      ∙ and_same (P t && eqb (length t.done) n && eqb (length c.slices) n) (λ h.
      let l : length t.done ≡ n = eqb-true _ _ (and_right (P t) (eqb (length t.done) n) (and_left (P t && eqb (length t.done) n) (eqb (length c.slices) n) h)) in
      ap (leb s.progress.count) (sym (w.long ∙ l)) ∙ w.few ∙ ap (leb t.progress.count) l)

  module _ (h : place_ok c.width c.height c.x c.y ≡ true) where
    in_picture_lem : here c < total c.width c.height
    in_picture_lem = address_inside c.width c.height c.x c.y (place_is c.width c.height c.x c.y h)

    -- a neighbour that it waits for is in its slice
    ready_same : all_settled c.width c.x c.y (waits_for c) s.done ≡ all_settled c.width c.x c.y (waits_for c) t.done
    ready_same = settled_same c.width c.x c.y (waits_for c) s.done t.done (λ k v.
        let at = available_at c.width c.x c.y c.slices k (place_is c.width c.height c.x c.y h).in_w (waits_available c k v) in
        w.marked (beside c.width c.x c.y k) (lt_trans at.before in_picture_lem) (waits_own c k v))

  twin_answer : answer_to c s ≡ answer_to c t
  unfolding rules
  twin_answer =
      cond_same (size_ok c.width c.height) _ _ _ _
      (λ _. rw room_same (cond_same (room_for c t) _ _ _ _
      (λ _. cond_same (lists_good c.mb) _ _ _ _
      (λ _. cond_same (place_ok c.width c.height c.x c.y) _ _ _ _
      (λ h. rw (w.marked (here c) (in_picture_lem h) refl, ready_same h))
      (λ _. refl)) (λ _. refl)) (λ _. refl))) (λ _. refl)

-- ---- twins stay twins
module _ (n : ℕ) (slices : List ℕ) (σ : ℕ) where
  mark_other : (c : Call) (s : Lent) → answer_to c s ≡ 0 → (b : ℕ) → ¬ (b ≡ here c) → is_done (rebuilt c s).done b ≡ is_done s.done b
  mark_other c s e b d = ap (λ v. eqb v 1) (keeps_mark c s e b d)

  -- after another slice's call in one of them
  foreign_after : (c : Call) (s t : Lent) → ¬ (get_or slices (here c) 0 ≡ σ) → Twin n slices σ s t → Twin n slices σ (after driver c s) t
  foreign_after c s t out w =
      by_answer c s (λ u. Twin n slices σ u t) (λ e. record {
        marked = λ b h k. mark_other c s e b (λ d. out (ap (λ a. get_or slices a 0) (sym d) ∙ k)) ∙ w.marked b h k;
        bytes = λ p. keeps_bytes c s e p ∙ w.bytes p;
        long = keeps_long c s e ∙ w.long;
        few = few_after c s e ∙ sym (few_before c s e) ∙ w.few;
      }) w

  foreign_run : (c : Call) (ds : List Call) (s t : Lent) → get_or c.slices (here c) 0 ≡ σ → c.slices ≡ slices → Foreign c ds → Twin n slices σ s t
      → Twin n slices σ (play driver ds s) t
  foreign_run c [] s t e f out w = w
  foreign_run c (d ∷ ds) s t e f out w =
      foreign_run c ds (after driver d s) t e f out.1 (foreign_after d s t (λ k. out.0 (ap (λ l. get_or l (here d) 0) f ∙ k ∙ sym e)) w)

  -- after a call in both that is answered alike
  both_after : (c : Call) (s t : Lent) → answer_to c s ≡ answer_to c t → Twin n slices σ s t → Twin n slices σ (after driver c s) (after driver c t)
  both_after c s t same w = go (answer_to c t) refl
    where
      accepted : answer_to c s ≡ 0 → answer_to c t ≡ 0 → Twin n slices σ (rebuilt c s) (rebuilt c t)
      accepted e f = record {
        marked = λ b h k. by b h k (ℕ_discrete b (here c));
        bytes = λ p. keeps_bytes c s e p ∙ w.bytes p ∙ sym (keeps_bytes c t f p);
        long = keeps_long c s e ∙ w.long ∙ sym (keeps_long c t f);
        few = few_after c s e ∙ sym (few_after c t f);
      }
        where
          by : (b : ℕ) → b < n → get_or slices b 0 ≡ σ → Dec (b ≡ here c) → is_done (rebuilt c s).done b ≡ is_done (rebuilt c t).done b
          by b h k (yes d) = rw d (mark_here c s e ∙ sym (mark_here c t f))
          by b h k (no d) = mark_other c s e b d ∙ w.marked b h k ∙ sym (mark_other c t f b d)

      go : (r : ℕ) → answer_to c t ≡ r → Twin n slices σ (after driver c s) (after driver c t)
      go zero f =
          subst (λ u. Twin n slices σ u (after driver c t)) (sym (leaves c s (same ∙ f))) (subst (Twin n slices σ (rebuilt c s)) (sym (leaves c t f)) (accepted (same ∙ f) f))
      go (suc r) f =
          subst (λ u. Twin n slices σ u (after driver c t)) (sym (kept r s (rebuilt c s) (same ∙ f))) (subst (Twin n slices σ s) (sym (kept r t (rebuilt c t) f)) w)

twin_self : (n : ℕ) (slices : List ℕ) (σ : ℕ) (s : Lent) → Twin n slices σ s s
twin_self n slices σ s = record { marked = λ b h k. refl; bytes = λ p. refl; long = refl; few = refl }

-- ---- a slice's calls alone
module _ (g : Picture) (σ : ℕ) where
  abbrev TwinIn : Lent → Lent → Type 0
  TwinIn s t = Twin (total g.width g.height) g.slices σ s t

  of_call : (c : Call) (s t : Lent) → get_or g.slices (here c) 0 ≡ σ → (c.width ≡ g.width) × (c.height ≡ g.height) × (c.slices ≡ g.slices) → TwinIn s t → TwinFor c s t
  of_call c s t k (ew, eh, es) w = record {
    marked = λ b h l. w.marked b (subst (λ m. b < m) (ap₂ total ew eh) h) (sym (ap (λ l. get_or l b 0) es) ∙ l ∙ ap (λ l. get_or l (here c) 0) es ∙ k);
    bytes = w.bytes;
    long = w.long;
    few = w.few;
  }

  -- the answers are the same, and at the end the slice cannot tell
  abbrev Alone : List Call → Lent → Lent → Type 0
  Alone cs s t = (answers_in g.slices σ cs s ≡ answers driver (calls_in g.slices σ cs) t) × TwinIn (play driver cs s) (play driver (calls_in g.slices σ cs) t)

  alone_from : (cs : List Call) (s t : Lent) → OfPicture g σ cs → TwinIn s t → Alone cs s t
  alone_from [] s t o w = (refl, w)
  alone_from (c ∷ cs) s t o w = go (alone_from cs) (eqb (get_or g.slices (here c) 0) σ) refl
    where
      go : ((s t : Lent) → OfPicture g σ cs → TwinIn s t → Alone cs s t) → (b : Bool) → eqb (get_or g.slices (here c) 0) σ ≡ b
          → (cond b (answer_to c s ∷ answers_in g.slices σ cs (after driver c s)) (answers_in g.slices σ cs (after driver c s))
          ≡ answers driver (cond b (c ∷ calls_in g.slices σ cs) (calls_in g.slices σ cs)) t)
          × TwinIn (play driver cs (after driver c s)) (play driver (cond b (c ∷ calls_in g.slices σ cs) (calls_in g.slices σ cs)) t)
      go more true e =
          let k : get_or g.slices (here c) 0 ≡ σ = eqb-true _ _ e in
          let same = twin_answer c s t (of_call c s t k (o.0 k) w) in
          let rest = more (after driver c s) (after driver c t) o.1 (both_after (total g.width g.height) g.slices σ c s t same w) in
          (ap₂ (λ x xs. x ∷ xs) same rest.0, rest.1)
      go more false e = more (after driver c s) t o.1 (foreign_after (total g.width g.height) g.slices σ c s t (eqb-false _ _ e) w)

  alone_self : (cs : List Call) (s : Lent) → OfPicture g σ cs → Alone cs s s
  alone_self cs s o = alone_from cs s s o (twin_self (total g.width g.height) g.slices σ s)

-- ---- a count above W * H
count_asked : (c : Call) (s : Lent) (p : Progress) → answer_to c s ≡ 0 → total c.width c.height < p.count
    → answer_to c (record { planes = s.planes; done = s.done; progress = p }) ≡ 2
unfolding rules
count_asked c s p e h = rw (size_yes c.width c.height (accepted_passed c s e).size, no_from (room_for c t) (λ o. (facts o).few) (λ l. omega arith))
  where
    t : Lent
    t = record { planes = s.planes; done = s.done; progress = p }

    facts : room_for c t ≡ true → LentRoom c.width c.height c.stride (λ q. length (s.planes q)) (length s.done) (length c.slices) p.count
    facts = room_is c.width c.height c.stride (λ q. length (s.planes q)) (length s.done) (length c.slices) p.count

pub slice_answers : Answers
slice_answers = record {
  same_answer = λ c s t marked bytes long progress. twin_answer c s t (record {
    marked = marked;
    bytes = bytes;
    long = long;
    few = ap₂ (λ p l. leb p.count l) progress long;
  });
  reads_own = reads_own;
  waits_own = waits_own;
  unmoved = λ c ds s out.
      let n = total c.width c.height in
      let σ = get_or c.slices (here c) 0 in
      twin_answer c (play driver ds s) s (foreign_run n c.slices σ c ds s s refl refl out (twin_self n c.slices σ s));
  alone = λ g σ cs s o. (alone_self g σ cs s o).0;
  alone_marks = λ g σ cs s o b h. (alone_self g σ cs s o).1.marked b h.0 h.1;
  other_samples = λ c s p i out. by_answer c s (λ t. get_or (t.planes p) i 0 ≡ get_or (s.planes p) i 0) (λ e. keeps_samples c s e p i out) refl;
  other_marks = λ c s b d. by_answer c s (λ t. get_or t.done b 0 ≡ get_or s.done b 0) (λ e. keeps_mark c s e b d) refl;
  shared_progress = λ c s e. ap (λ t. t.progress) (leaves c s e);
  count_asked = count_asked;
}
