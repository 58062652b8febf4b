-- How many turns a picture takes, and which macroblocks come in each: for every slice map, and worked out for a picture in one slice.
use Rattle.std.specs.Prelude.{◌≡◌, ◌↔◌, List, [], ℕ, suc, ◌+◌, ◌*◌, ◌-◌, ◌<◌, ◌≤◌, max, get_or}
use Rattle.order.specs.Lists.{Names}
use Rattle.order.specs.Order.{Done, AllDone}
use Rattle.maps.specs.Neighbours.Side.{B, C, D}
use Rattle.maps.specs.Size.{total, address, Stands}
use Rattle.turn_list.specs.Turn.{turn}
use Rattle.turn_count.specs.Count.{done_after, turn_count}
use Rattle.turn_count.specs.Due.{due, due_on, due_before, latest}

-- all macroblocks have the same slice number
abbrev pub OneSlice : (w h : ℕ) → List ℕ → Type 0
OneSlice w h slices = (a b : ℕ) → a < total w h → b < total w h → get_or slices a 0 ≡ get_or slices b 0

pub record HowMany (w h : ℕ) (slices : List ℕ) : Type 0 where
  -- ---- when a macroblock is due
  -- one turn after the latest of the one before it in its row, whatever its slice, and its available neighbours above
  pub recurrence : (x y : ℕ)
      → due w slices x y ≡ 1 + max (due_before w slices x y) (max (due_on w slices x y B) (max (due_on w slices x y C) (due_on w slices x y D)))
  -- in that turn it is listed, after that turn it is done, and so is its row with the row's last one
  pub listed : (t x y : ℕ) → Stands w h x y → Names (turn w h slices (done_after w h slices t)) (address w x y) ↔ (due w slices x y ≡ suc t)
  pub done : (t x y : ℕ) → Stands w h x y → Done (done_after w h slices t) (address w x y) ↔ (due w slices x y ≤ t)
  pub row_done : (t y : ℕ) → y < h → ((x : ℕ) → x < w → Done (done_after w h slices t) (address w x y)) ↔ (due w slices (w - 1) y ≤ t)
  -- ---- how many turns
  -- all is done after so many turns or more, and not sooner; no turn before is empty; the last is that of the latest row
  pub finished : (t : ℕ) → AllDone (total w h) (done_after w h slices t) ↔ (turn_count w h slices ≤ t)
  pub some : (t : ℕ) → t < turn_count w h slices → ¬ (turn w h slices (done_after w h slices t) ≡ [])
  pub last : turn_count w h slices ≡ latest h (λ y. due w slices (w - 1) y)
  -- for every slice map
  pub least : w ≤ turn_count w h slices
  pub most : turn_count w h slices ≤ w + 2 * (h - 1)
  -- ---- in one slice: each row starts two turns behind the row above, and a single column goes down one by one
  pub wide_due : OneSlice w h slices → 2 ≤ w → (x y : ℕ) → Stands w h x y → due w slices x y ≡ 1 + x + 2 * y
  pub wide : OneSlice w h slices → 2 ≤ w → turn_count w h slices ≡ w + 2 * (h - 1)
  pub narrow_due : OneSlice w h slices → w ≡ 1 → (y : ℕ) → y < h → due w slices 0 y ≡ 1 + y
  pub narrow : OneSlice w h slices → w ≡ 1 → turn_count w h slices ≡ h
