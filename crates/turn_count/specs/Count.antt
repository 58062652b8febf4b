-- How many turns a picture takes: from a cleared done map until all is done, each turn accepting its whole list.
use Rattle.std.specs.Prelude.{Bool, not, List, [], ◌∷◌, ℕ, zero, suc, replicate}
use Rattle.laws.specs.Answer.{answer}
use Rattle.laws.specs.Table.{all_below}
use Rattle.order.specs.Order.{marked}
use Rattle.maps.specs.Done.{is_done}
use Rattle.maps.specs.Size.{total, size_rule}
use Rattle.turn_list.specs.Turn.{leading, turn, map_rule}

module _ (w h : ℕ) (slices : List ℕ) where
  -- the done map after t turns
  unfoldable pub done_after : ℕ → List ℕ
  done_after zero = replicate (total w h) 0
  done_after (suc t) = let done : List ℕ = done_after t in marked (turn w h slices done) done

  -- t turns leave a macroblock undone
  abbrev pub unfinished : ℕ → Bool
  unfinished t = not (all_below (total w h) (is_done (done_after t)))

  -- the first t for which they leave none. It is looked for among 0, 1, .., W * H; that this is enough need not be believed, since `HowMany.finished` speaks
  -- of every t
  unfoldable pub turn_count : ℕ
  turn_count = leading (total w h) unfinished

-- what counting the turns answers, by the slice map's length
unfoldable pub turn_count_answer : (w h entries : ℕ) → ℕ
turn_count_answer w h entries = answer (size_rule w h ∷ map_rule w h entries ∷ [])
