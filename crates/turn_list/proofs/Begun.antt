-- The macroblocks of a turn are undone and ready, and none is another's neighbour, so that they may come in any order. Assumes nothing.
use mathlib.Core.Path.{◌≡◌, sym, subst}
use mathlib.Core.Bool.{true}
use mathlib.Core.List.{List, []}
use Prim.Native.Nat.{ℕ, zero, suc, ◌*◌, ◌<◌}
use native.Mathlib.Nat.{mul-zero, not-suc-le-zero}
use native.Mathlib.Omega.{arith}
use lib.Arith.{digits_div, digits_mod}
use lib.ListN.{length}
use Rattle.order.specs.Lists.{Names, Permutes}
use Rattle.order.specs.Order.{Done, AllDone, Ready, First, Permitted}
use Rattle.order.proofs.Lists.{names_permuted, rises_distinct, distinct_permuted}
use Rattle.order.proofs.Permuted.{all_permitted}
use Rattle.order.proofs.Undone.{some_first}
use Rattle.maps.specs.Neighbours.{Side, beside, available, Adjoins}
use Rattle.maps.specs.Size.{total, address}
use Rattle.maps.proofs.Sizes.{address_inside}
use Rattle.turn_list.specs.Turn.{turn}
use Rattle.turn_list.proofs.Startable.{turn_named, turn_rises, turn_first}

module _ (w h : ℕ) (slices done : List ℕ) where
  pub record Begins (a : ℕ) : Type 0 where
    pub inside : a < total w h
    pub undone : ¬ Done done a
    pub ready : Ready (Adjoins w slices) done a

  ready_at : (x y : ℕ) → x < w → ((k : Side) → available w slices x y k ≡ true → Done done (beside w x y k)) → Ready (Adjoins w slices) done (address w x y)
  ready_at x y l f = rw (digits_mod y l, digits_div y l) (λ b (k, t, e). subst (Done done) e (f k t))

  pub turn_begins : (a : ℕ) → Names (turn w h slices done) a → Begins a
  turn_begins a n =
      let p = turn_named w slices done h a n in
      let q = p.at in
      subst Begins (sym q.is) (record {
        inside = address_inside w h q.x p.y (record { in_w = q.in_w; in_h = p.in_h });
        undone = q.starts.undone;
        ready = ready_at q.x p.y q.in_w q.starts.ready;
      })

  pub turn_apart : (a b : ℕ) → Names (turn w h slices done) a → Names (turn w h slices done) b → ¬ Adjoins w slices a b
  turn_apart a b m n k = (turn_begins b n).undone ((turn_begins a m).ready b k)

  pub turn_permitted : (o : List ℕ) → length done ≡ total w h → Permutes o (turn w h slices done) → Permitted (total w h) (Adjoins w slices) o done
  turn_permitted o long p =
      all_permitted (total w h) (Adjoins w slices) o done long (distinct_permuted p (rises_distinct (turn w h slices done) (turn_rises w slices done h)))
      (λ a n. let b = turn_begins a (names_permuted p a n) in (b.inside, b.undone, b.ready))

  -- the first undone one is among them
  some_width : (w h a : ℕ) → a < h * w → 0 < w
  some_width zero h a l = absurd (not-suc-le-zero (subst (λ n. a < n) (mul-zero h) l))
  some_width (suc w) h a l = omega arith

  pub turn_has_first : (a : ℕ) → First (total w h) done a → Names (turn w h slices done) a
  turn_has_first a f = turn_first w slices done h a (some_width w h a f.inside) f

  pub turn_some : ¬ AllDone (total w h) done → ¬ (turn w h slices done ≡ [])
  turn_some n e = let f = some_first done (total w h) n in subst (λ l. Names l f.0) e (turn_has_first f.0 f.1)
