-- What a check tells of the lists of a picture: yes is said exactly of those that name every macroblock once, each after all its available neighbours.
use Rattle.std.specs.Prelude.{◌≡◌, ◌↔◌, List, [], ◌∷◌, ℕ, suc, ◌<◌, ◌≤◌, length, replicate}
use Rattle.order.specs.FullOrder.{InPlace, FullOrder}
use Rattle.order.specs.Lists.{Permutes, joined}
use Rattle.order.specs.Order.{raster}
use Rattle.maps.specs.Neighbours.{Adjoins}
use Rattle.maps.specs.Size.{total}
use Rattle.turn_list.specs.Turn.{turn}
use Rattle.turn_count.specs.Count.{done_after, turn_count}
use Rattle.order_check.specs.Check.{out_of_place, verdict_of, order_answer}

-- the list is not refused, and yes is said of it
pub record Passes (w h : ℕ) (slices order : List ℕ) : Type 0 where
  pub answers : order_answer w h (length slices) order ≡ 0
  pub yes : verdict_of w slices order ≡ 1

module _ (w h : ℕ) (slices : List ℕ) where
  -- whole turns after the first t, each in any order
  abbrev pub WholeTurns : ℕ → List (List ℕ) → Type 0
  WholeTurns t [] = Unit {0}
  WholeTurns t (o ∷ os) = Permutes o (turn w h slices (done_after w h slices t)) × WholeTurns (suc t) os

  pub record Told : Type 0 where
    -- ---- yes and no
    pub passes : (order : List ℕ) → Passes w h slices order ↔ FullOrder (total w h) (Adjoins w slices) order
    -- there is nothing else
    pub no : (order : List ℕ) → ¬ (verdict_of w slices order ≡ 1) → verdict_of w slices order ≡ 0
    -- ---- where it is no
    -- all before the place that is told are in place, and the one at it is not; at the list's end it is yes
    pub before : (order : List ℕ) → order_answer w h (length slices) order ≡ 0 → (i : ℕ) → i < out_of_place w slices order → InPlace (Adjoins w slices) order i
    pub out : (order : List ℕ) → order_answer w h (length slices) order ≡ 0 → out_of_place w slices order < total w h
        → ¬ InPlace (Adjoins w slices) order (out_of_place w slices order)
    pub end : (order : List ℕ) → order_answer w h (length slices) order ≡ 0
        → (out_of_place w slices order ≤ total w h) × ((out_of_place w slices order ≡ total w h) ↔ (verdict_of w slices order ≡ 1))
    -- ---- orders that pass
    -- raster order, and any joining of turns, as many as the picture takes or more
    pub in_raster_lem : Passes w h slices (raster (total w h))
    pub in_turns : (os : List (List ℕ)) → WholeTurns 0 os → turn_count w h slices ≤ length os → Passes w h slices (joined os)
    -- and what passes in one slice, which has the most neighbours
    pub one_slice_lem : (order : List ℕ) → Passes w h (replicate (total w h) 0) order → Passes w h slices order
