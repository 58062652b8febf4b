-- What private functions tell of the places at which macroblocks come.
use Rattle.std.specs.Prelude.{◌≡◌, Bool, true, false, cond, ◌&&◌, ◌||◌, ◌⊎◌, List, ℕ, ◌<◌, ◌≤◌, ltb, leb, get_or, length, replicate}
use Rattle.maps.specs.Neighbours.{Side, beside, available, SliceMap}
use Rattle.maps.specs.Neighbours.Side.{A, B, C, D}
use Rattle.maps.specs.Size.{total, address}
use Rattle.order_check.specs.Check.{named_before}

-- a table of n places or more that notes none
pub record Unnamed (n : ℕ) (places : List ℕ) : Type 0 where
  pub room : n ≤ length places
  pub most : length places ≤ 8160
  pub none : places ≡ replicate (length places) 65535

-- a list that no rule refuses
pub record Checkable (w h : ℕ) (slices order : List ℕ) : Type 0 where
  pub map : SliceMap w h slices
  pub long : length order ≡ total w h
  pub inside : (i : ℕ) → i < length order → get_or order i 0 < total w h

-- a list of no more entries than a picture has, and a table for them
pub record Inside (order places : List ℕ) : Type 0 where
  pub few : length order ≤ 8160
  pub inside : (i : ℕ) → i < length order → get_or order i 0 < length places
  pub table : Unnamed 0 places

-- the first k entries are noted: they name different macroblocks, and the place of each tells whether it is among the first j
pub record NotedTo (order : List ℕ) (k : ℕ) (places : List ℕ) : Type 0 where
  pub most : k ≤ length order
  pub new : (i : ℕ) → i < k → named_before order i (get_or order i 0) ≡ false
  pub named : (j a : ℕ) → j ≤ k → a < length places → named_before order j a ≡ ltb (get_or places a 0) j
  pub only : (a : ℕ) → a < length places → (get_or places a 0 < k) ⊎ (get_or places a 0 ≡ 65535)

-- and the next names one of theirs
pub record Noted (order : List ℕ) (k n : ℕ) (places : List ℕ) : Type 0 where
  pub long : length places ≡ n
  pub to : NotedTo order k places
  pub stop : k < length order → named_before order k (get_or order k 0) ≡ true

-- the least of some places, and 65535 where there is none
pub record Least (P : ℕ → Type 0) (r : ℕ) : Type 0 where
  pub least : (i : ℕ) → P i → r ≤ i
  pub is : (r ≡ 65535) ⊎ P r

-- ---- macroblock (x, y) comes too early: no later than an available neighbour, on a side and on any
abbrev pub early_on : (w : ℕ) (slices places : List ℕ) (x y : ℕ) → Side → Bool
early_on w slices places x y k = available w slices x y k && leb (get_or places (address w x y) 0) (get_or places (beside w x y k) 0)

abbrev pub early : (w : ℕ) (slices places : List ℕ) (x y : ℕ) → Bool
early w slices places x y =
    early_on w slices places x y A || early_on w slices places x y B || early_on w slices places x y C || early_on w slices places x y D

-- its place if so, and 65535 if not
unfoldable pub if_early : (w : ℕ) (slices places : List ℕ) (x y : ℕ) → ℕ
if_early w slices places x y = cond (early w slices places x y) (get_or places (address w x y) 0) 65535

-- i is the place of one that does, from one column of row y to another, and in any row
abbrev pub EarlyBetween : (w : ℕ) (slices places : List ℕ) (y from to i : ℕ) → Type 0
EarlyBetween w slices places y from to i =
    (x : ℕ) × (from ≤ x) × (x < to) × (early w slices places x y ≡ true) × (get_or places (address w x y) 0 ≡ i)

abbrev pub EarlyIn : (w h : ℕ) (slices places : List ℕ) (i : ℕ) → Type 0
EarlyIn w h slices places i = (y : ℕ) × (y < h) × EarlyBetween w slices places y 0 w i
