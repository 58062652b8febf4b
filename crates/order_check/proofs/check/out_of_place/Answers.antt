-- `order_check::check::out_of_place` meets its contract: what no rule refuses is checked. Assumes nothing.
use Rattle.std.proofs.Common.{◌≡◌, ℕ, List, ◌*◌, true, length, get_or, sym, ap, ◌∙◌}
use borrow.Author.Tests.{ltb-true}
use lib.Dec.{ltb}
use Rattle.laws.specs.Table.{all_below}
use Rattle.laws.proofs.Tests.{all_at}
use Rattle.maps.specs.Size.{total}
use Rattle.maps.specs.declared.slice_map.SliceMap.{SliceMap}
use Rattle.order_check.specs.inner.Places.{Checkable}
use Rattle.order_check.proofs.check.out_of_place.Goals as goal

-- a list as long as the map, whose entries lie inside
checkable : (m : SliceMap) (n : ℕ) (order : List ℕ) → n ≡ total m.w m.h → length order ≡ length m.slices.now
    → all_below (length order) (λ i. ltb (get_or order i 0) n) ≡ true → Checkable m.w m.h m.slices.now order
checkable m n order e l a = record {
  map = m.fits;
  long = l ∙ m.fits.long;
  inside = λ i h. rw (← e) (ltb-true (get_or order i 0) n (all_at (length order) (λ j. ltb (get_or order j 0) n) a i h));
}

pub first_out-requires : goal.first_out-requires
first_out-requires c = let a = c.args in
    let m = c.in_ok-map.ensures.map in
    let n : a.h * a.w ≡ total c.in_ok-map.map.w c.in_ok-map.map.h = rw (m.0, m.1) in
    checkable c.in_ok-map.map (a.h * a.w) a.order.now n (c.if-order-slices.false ∙ sym (ap length m.2)) (sym c.all_inside.ensures ∙ c.if-not-all_inside.false)
