-- The neighbourhood of a block is the same at two places, or in two planes, where the samples on its sides are. Assumes nothing.
use mathlib.Core.Path.{◌≡◌, sym, ap, ◌∙◌}
use mathlib.Core.Bool.{Bool, true, false, cond}
use mathlib.Core.List.{List}
use Prim.Native.Nat.{ℕ, ◌+◌, ◌*◌, ◌-◌, ◌<◌, ◌≤◌, min}
use native.Mathlib.Nat.{add-mul}
use native.Mathlib.Decide.{dec_lt}
use native.Mathlib.Omega.{arith}
use lib.Dec.{T}
use lib.ListN.{get_or}
use Rattle.laws.proofs.Tables.{table_same}
use Rattle.laws.proofs.Tests.{where_same}
use Rattle.basics.specs.Near.{near}
use Rattle.maps.specs.Neighbours.{Side}
use Rattle.maps.specs.Neighbours.Side.{A, B, C, D}
use Rattle.cut.specs.Cut.{square_sides}
use Rattle.macroblock.specs.declared.place.Place.{Place}
use Rattle.macroblock.specs.Square.{above_of, left_of, corner_of, near_block}
use Rattle.macroblock.proofs.Held.{row_at, column_at}

module _ (q wide : ℕ) (some : 0 < q) (reach : wide ≤ 2 * q) (a b : Place) (there : Side → Bool) (p p' : List ℕ)
    (look : (d : Side) (t : ℕ) → t < q → T (there d)
    → get_or p (row_at q a.row d t * a.stride + column_at q a.column d t) 0 ≡ get_or p' (row_at q b.row d t * b.stride + column_at q b.column d t) 0) where
  -- sample z above the block and above the next one
  above_look : (z : ℕ) → z < 2 * q → T (there B) → (q ≤ z → T (there C))
      → get_or p ((a.row * q - 1) * a.stride + (a.column * q + z)) 0 ≡ get_or p' ((b.row * q - 1) * b.stride + (b.column * q + z)) 0
  above_look z hz h g = go (dec_lt z q)
    where
      next : (c : ℕ) → q ≤ z → (c + 1) * q + (z - q) ≡ c * q + z
      next c l = omega (arith, add-mul c 1 q)

      go : Dec (z < q) → get_or p ((a.row * q - 1) * a.stride + (a.column * q + z)) 0 ≡ get_or p' ((b.row * q - 1) * b.stride + (b.column * q + z)) 0
      go (yes l) = look B z l h
      go (no n) =
          let l : q ≤ z = omega arith in
          sym (ap (λ i. get_or p ((a.row * q - 1) * a.stride + i) 0) (next a.column l))
          ∙ look C (z - q) (omega arith) (g l) ∙ ap (λ i. get_or p' ((b.row * q - 1) * b.stride + i) 0) (next b.column l)

  -- the last one that is there is repeated
  last_there : (c : Bool) (t : ℕ) → t < wide → (min t (cond c (2 * q - 1) (q - 1)) < 2 * q) × (q ≤ min t (cond c (2 * q - 1) (q - 1)) → T c)
  last_there true t h = (omega arith, λ _. tt)
  last_there false t h = (omega arith, λ l. absurd (omega arith))

  above_same : above_of q a p (square_sides there) wide ≡ above_of q b p' (square_sides there) wide
  unfolding above_of
  above_same =
      table_same wide _ _ (λ t h.
      let l = last_there (there C) t h in
      where_same (there B) _ _ 0 (λ o. above_look (min t (cond (there C) (2 * q - 1) (q - 1))) l.0 o l.1))

  left_same : left_of q a p (square_sides there) ≡ left_of q b p' (square_sides there)
  unfolding left_of
  left_same = table_same q _ _ (λ t h. where_same (there A) _ _ 0 (look A t h))

  corner_same : corner_of q a p (square_sides there) ≡ corner_of q b p' (square_sides there)
  unfolding corner_of
  corner_same = where_same (there D) _ _ 0 (look D 0 some)

  pub near_same : near_block q a p (square_sides there) wide ≡ near_block q b p' (square_sides there) wide
  near_same = λ i. near (above_same i) (left_same i) (corner_same i)
