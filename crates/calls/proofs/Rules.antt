-- The table of refusals, rule by rule: what the first rules tell together, and that rule 5 is broken exactly when a neighbour that the call waits for is
-- undone. Assumes nothing.
use mathlib.Core.Path.{◌≡◌, refl, sym, ◌∙◌}
use mathlib.Core.Logic.{◌↔◌}
use mathlib.Core.Bool.{Bool, true, false, not}
use mathlib.Core.List.{List, [], ◌∷◌, ◌++◌}
use Prim.Native.Nat.{ℕ, ◌<◌}
use lib.ListN.{length}
use borrow.Author.Tests.{not-true}
use Rattle.laws.specs.Answer.{Check, answer}
use Rattle.laws.proofs.Answers.{holds, broken, passes_by, passes, answer_without, answer_later, answer_earlier, earlier_hold, answer_without_rule}
use Rattle.laws.proofs.Tests.{no_from}
use Rattle.order.specs.Order.{Done}
use Rattle.maps.specs.Done.{is_done}
use Rattle.maps.specs.Neighbours.{Side, beside}
use Rattle.maps.specs.Size.{Size, size_ok, Stands, place_ok}
use Rattle.maps.proofs.Beside.{available_at}
use Rattle.maps.proofs.Sizes.{size_is, size_yes, place_is, place_yes}
use Rattle.maps.proofs.Waiting.{settled_is, settled_no}
use Rattle.macroblock.specs.Rules.{lists_good, known, permitted, known_rule, permitted_rule, numbers_rule, early_rules, wait_rule}
use Rattle.calls.specs.Planes.{room_ok}
use Rattle.calls.specs.Rebuild.{Call, Lent, here, marks, waits_for, neighbours_rule, rules, answer_to, open_rules, first_rules, first, earlier, record_rules}
use Rattle.calls.proofs.Available.{waits_available}
use Rattle.calls.proofs.Lending.{LentRoom, room_is, room_yes}

module _ (c : Call) (s : Lent) where
  -- what the first rules tell, where `ok` says that the lists are as long as they should be
  pub record Opened (ok : Bool) : Type 0 where
    pub size : Size c.width c.height
    pub room : LentRoom c.width c.height c.stride (λ p. length (s.planes p)) (length s.done) (length c.slices) s.progress.count
    pub lists : ok ≡ true
    pub place : Stands c.width c.height c.x c.y
    pub undone : is_done s.done (here c) ≡ false

  pub opened_is : (ok : Bool) → answer (open_rules c s ok) ≡ 0 → Opened ok
  opened_is ok e =
      let p₁ = passes_by 0 (size_ok c.width c.height) _ e in
      let p₂ = passes_by 1 (room_ok c.width c.height c.stride (λ p. length (s.planes p)) (length s.done) (length c.slices) s.progress.count) _ p₁.1 in
      let p₃ = passes_by 1 ok _ p₂.1 in
      let p₄ = passes_by 2 (place_ok c.width c.height c.x c.y) _ p₃.1 in
      let p₅ = passes_by 3 (not (is_done s.done (here c))) _ p₄.1 in
      record {
        size = size_is c.width c.height p₁.0;
        room = room_is c.width c.height c.stride (λ p. length (s.planes p)) (length s.done) (length c.slices) s.progress.count p₂.0;
        lists = p₃.0;
        place = place_is c.width c.height c.x c.y p₄.0;
        undone = not-true (is_done s.done (here c)) p₅.0;
      }

  -- those of the whole call: the lists are the record's
  abbrev pub Passed : Type 0
  Passed = Opened (lists_good c.mb)

  pub passed_is : first c s ≡ 0 → Passed
  unfolding first_rules
  passed_is e = opened_is (lists_good c.mb) e

  pub passed_yes : Passed → first c s ≡ 0
  unfolding first_rules
  passed_yes g =
      rw (
        size_yes c.width c.height g.size,
        room_yes c.width c.height c.stride (λ p. length (s.planes p)) (length s.done) (length c.slices) s.progress.count g.room,
        g.lists,
        place_yes c.width c.height c.x c.y g.place,
        g.undone,
      )

  -- the rules on the record's modes, the fifth, and the last
  abbrev pub ready_now : Bool
  ready_now = (neighbours_rule c s).holds

  abbrev modes : List Check
  modes = known_rule c.mb ∷ permitted_rule (marks c) c.mb ∷ []

  abbrev last : List Check
  last = numbers_rule c.mb ∷ []

  in_order : rules c s ≡ first_rules c s ++ (modes ++ (neighbours_rule c s ∷ last))
  unfolding rules first_rules
  in_order = refl

  in_time : rules c s ≡ (first_rules c s ++ modes) ++ (neighbours_rule c s ∷ last)
  unfolding rules first_rules
  in_time = refl

  late : first c s ≡ 0 → answer_to c s ≡ answer (modes ++ (neighbours_rule c s ∷ last))
  unfolding first_rules
  late e = rw in_order (answer_later (first_rules c s) (modes ++ (neighbours_rule c s ∷ last)) tt e)

  later : earlier c s ≡ 0 → answer_to c s ≡ answer (neighbours_rule c s ∷ last)
  unfolding first_rules
  later e = rw in_time (answer_later (first_rules c s ++ modes) (neighbours_rule c s ∷ last) tt e)

  -- the first of them that a call breaks decides
  pub refused_by : ¬ (first c s ≡ 0) → answer_to c s ≡ first c s
  refused_by n = rw in_order (answer_earlier (first_rules c s) (modes ++ (neighbours_rule c s ∷ last)) n)

  -- a call that is accepted passed them, and so did one that is not ready
  pub passed_0 : answer_to c s ≡ 0 → earlier c s ≡ 0
  passed_0 e = earlier_hold 0 (first_rules c s ++ modes) (neighbours_rule c s ∷ last) (λ n. n) (rw in_time at e)

  passed_5 : answer_to c s ≡ 5 → earlier c s ≡ 0
  unfolding first_rules
  passed_5 e = earlier_hold 5 (first_rules c s ++ modes) (neighbours_rule c s ∷ last) (λ _. answer_without 4 (first_rules c s ++ modes) tt) (rw in_time at e)

  pub first_0 : earlier c s ≡ 0 → first c s ≡ 0
  first_0 e = earlier_hold 0 (first_rules c s) modes (λ n. n) e

  pub permitted_0 : earlier c s ≡ 0 → permitted (marks c) c.mb ≡ true
  unfolding first_rules
  permitted_0 e =
      let f = sym (answer_later (first_rules c s) modes tt (first_0 e)) ∙ e in
      (passes 6 (permitted (marks c) c.mb) [] (passes 5 (known c.mb) (permitted_rule (marks c) c.mb ∷ []) f).1).0

  not_ready : earlier c s ≡ 0 → ready_now ≡ false → answer_to c s ≡ 5
  not_ready e f = later e ∙ broken 5 last f

  -- a ready call's answer is that of the rules that speak of its record
  pub by_record : first c s ≡ 0 → ready_now ≡ true → answer_to c s ≡ answer (record_rules c)
  unfolding record_rules
  by_record e t = late e ∙ answer_without_rule modes 5 last t ∙ sym (holds 2 (modes ++ last) (passed_is e).lists)

  -- the rules that the macroblock call tests, those on the lists once more among them
  abbrev pub late_rules : List Check
  late_rules = early_rules (marks c) c.mb ++ wait_rule ready_now ∷ last

  pub late_answer : first c s ≡ 0 → answer_to c s ≡ answer late_rules
  late_answer e = late e ∙ sym (holds 2 (modes ++ (neighbours_rule c s ∷ last)) (passed_is e).lists)

  pub not_ready_when : earlier c s ≡ 0 → (answer_to c s ≡ 5) ↔ ((k : Side) × (waits_for c k ≡ true) × ¬ Done s.done (beside c.width c.x c.y k))
  not_ready_when e = (
    (λ f. settled_no c.width c.x c.y (waits_for c) s.done (no_from ready_now (λ t. answer_without 4 last tt (sym (later e ∙ holds 5 last t) ∙ f)) (λ z. z))),
    (λ (k, t, n). not_ready e (no_from ready_now (λ r. n (settled_is c.width c.x c.y (waits_for c) s.done r k t)) (λ z. z))),
  )

  pub ready_0 : answer_to c s ≡ 0 → ready_now ≡ true
  ready_0 e = go ready_now refl
    where
      go : (b : Bool) → ready_now ≡ b → b ≡ true
      go true t = refl
      go false t = absurd (answer_without 4 [] tt (sym e ∙ not_ready (passed_0 e) t))

  -- a neighbour that is waited for has a smaller address
  pub never_first : ((b : ℕ) → b < here c → Done s.done b) → ¬ (answer_to c s ≡ 5)
  never_first below f =
      let e = passed_5 f in
      let u = (not_ready_when e).0 f in
      let t = waits_available c u.0 u.1 in
      u.2 (below (beside c.width c.x c.y u.0) (available_at c.width c.x c.y c.slices u.0 (passed_is (first_0 e)).place.in_w t).before)
