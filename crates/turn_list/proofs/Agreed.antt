-- Counts that were counted agree, and those that are off do not. Assumes nothing.
use mathlib.Core.Path.{◌≡◌, refl, ap, ◌∙◌}
use mathlib.Core.Bool.{Bool, true, false}
use mathlib.Core.List.{List, [], ◌∷◌}
use Prim.Native.Nat.{ℕ, ◌<◌}
use lib.Dec.{eqb}
use lib.ListN.{get_or, length}
use borrow.Author.Tests.{eq-eqb, ne_eqb}
use Rattle.laws.specs.Answer.{◌unless◌, answer}
use Rattle.laws.proofs.Answers.{put, answer_later, answer_without_rule}
use Rattle.laws.proofs.Tables.{length_table, get_d_table}
use Rattle.laws.proofs.Tests.{all_of_lem, all_no}
use Rattle.turn_list.specs.Agreed.{Agreed}
use Rattle.turn_list.specs.Turn.{gapless, row_counts, height_rule, agree_rule, map_rules, turn_answer}

module _ (w h : ℕ) (slices done : List ℕ) where
  right : turn_answer w h slices done (row_counts w h done) h ≡ answer (map_rules w h slices done)
  unfolding turn_answer
  right =
      answer_without_rule (map_rules w h slices done) 9 (height_rule h h ∷ agree_rule w h done (row_counts w h done) ∷ []) (eq-eqb _ _ (length_table 0 h (gapless w done)))
      ∙ answer_without_rule (map_rules w h slices done) 9 (agree_rule w h done (row_counts w h done) ∷ []) (eq-eqb h h refl)
      ∙ answer_without_rule (map_rules w h slices done) 9 []
      (all_of_lem h (λ y. eqb (get_or (row_counts w h done) y 0) (gapless w done y)) (λ y l. eq-eqb _ _ (get_d_table 0 h (gapless w done) y l)))

  -- whichever of them is broken first
  nine : (a b c : Bool) → c ≡ false → answer (9 unless a ∷ 9 unless b ∷ 9 unless c ∷ []) ≡ 9
  nine true true c e = rw e
  nine true false c e = refl
  nine false b c e = refl

  wrong : (rows : List ℕ) (places y : ℕ) → answer (map_rules w h slices done) ≡ 0 → y < h → ¬ (get_or rows y 0 ≡ gapless w done y) → turn_answer w h slices done rows places ≡ 9
  unfolding turn_answer
  wrong rows places y e l n =
      answer_later (map_rules w h slices done) (height_rule h (length rows) ∷ height_rule h places ∷ agree_rule w h done rows ∷ []) tt e
      ∙ nine (eqb (length rows) h) (eqb places h) _ (all_no h (λ y. eqb (get_or rows y 0) (gapless w done y)) y l (ne_eqb _ _ n))

  pub agreed : Agreed w h slices done
  agreed = record {
    after_count = λ rows e. ap (λ l. turn_answer w h slices done l h) (put rows (row_counts w h done) e) ∙ right;
    off = wrong;
  }
