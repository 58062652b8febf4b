-- Compute's promise, way by way: refused by the first rules, or answered by the macroblock call, which finds room and tests the rest. Assumes nothing.
use mathlib.Core.Path.{◌≡◌, sym, ◌∙◌}
use mathlib.Core.Bool.{true, ◌&&◌}
use mathlib.Core.List.{List, [], ◌∷◌}
use Prim.Native.Nat.{ℕ}
use Rattle.laws.specs.Answer.{Check, answer, written}
use Rattle.laws.proofs.Answers.{holds, refused, answer_later, answer_earlier}
use Rattle.laws.proofs.Tests.{and_right}
use Rattle.macroblock.specs.Rules.{lists_good, known_rule, permitted_rule, numbers_rule, rebuild_answer}
use Rattle.calls.specs.Rebuild.{Call, Lent, marks, neighbours_rule, open_rules}
use Rattle.calls.proofs.Rules.{opened_is, ready_now}
use Rattle.halves.specs.Halves.{block_good, samples_of, Computes}

module _ (c : Call) (s : Lent) (block : List ℕ) where
  -- the rules before the record's modes are looked at, and those behind them
  abbrev pub opens : ℕ
  opens = answer (open_rules c s (block_good block && lists_good c.mb))

  abbrev late : List Check
  late = known_rule c.mb ∷ permitted_rule (marks c) c.mb ∷ neighbours_rule c s ∷ numbers_rule c.mb ∷ []

  pub compute_refused : {r : ℕ} → r ≡ opens → ¬ (r ≡ 0) → Computes c s block r block
  compute_refused {r} e n = record {
    answers = e ∙ sym (answer_earlier (open_rules c s (block_good block && lists_good c.mb)) late (λ z. n (e ∙ z)));
    leaves = sym (refused r block (samples_of c s.planes) n);
  }

  pub compute_late : {r : ℕ} {after : List ℕ} → opens ≡ 0 → r ≡ rebuild_answer true (marks c) (ready_now c s) c.mb
      → after ≡ written r block (samples_of c s.planes) → Computes c s block r after
  compute_late e a left = record {
    answers =
        a ∙ holds 2 late (and_right (block_good block) (lists_good c.mb) (opened_is c s (block_good block && lists_good c.mb) e).lists)
        ∙ sym (answer_later (open_rules c s (block_good block && lists_good c.mb)) late tt e);
    leaves = left;
  }
