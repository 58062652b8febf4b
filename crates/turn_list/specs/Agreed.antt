-- The row counts and the call that takes them: once they are counted no turn is refused for them, and counts that are off always are.
use Rattle.std.specs.Prelude.{◌≡◌, List, ℕ, ◌<◌, get_or, length}
use Rattle.laws.specs.Answer.{answer, written}
use Rattle.turn_list.specs.Turn.{gapless, row_counts, count_answer, map_rules, turn_answer}

pub record Agreed (w h : ℕ) (slices done : List ℕ) : Type 0 where
  -- after the call that counts rows, a turn over a list of h places is refused for the size or the slice map alone
  pub after_count : (rows : List ℕ) → let r = count_answer w h (length done) (length rows) in
      r ≡ 0 → turn_answer w h slices done (written r rows (row_counts w h done)) h ≡ answer (map_rules w h slices done)
  -- a count that is off, also one behind or one ahead, is refused with 9, unless 1 or 2 is due
  pub off : (rows : List ℕ) (places y : ℕ) → answer (map_rules w h slices done) ≡ 0 → y < h → ¬ (get_or rows y 0 ≡ gapless w done y)
      → turn_answer w h slices done rows places ≡ 9
