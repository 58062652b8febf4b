-- Yes is said exactly of the full orders of a picture's macroblocks, so of raster order and of joined turns. Assumes nothing.
use mathlib.Core.Path.{◌≡◌, refl, sym, ap, subst, ◌∙◌}
use mathlib.Core.Bool.{Bool, true, false, cond}
use mathlib.Core.List.{List, [], ◌∷◌}
use Prim.Native.Nat.{ℕ, suc, ◌+◌, ◌/◌, ◌%◌, ◌<◌, ◌≤◌}
use native.Mathlib.Decide.{dec_lt, ℕ_discrete}
use native.Mathlib.Nat.{add-zero}
use native.Mathlib.Omega.{arith}
use lib.Dec.{eqb, ltb}
use lib.ListN.{get_or, length, replicate}
use borrow.Author.Tests.{eqb-true, eq-eqb, ne_eqb, ltb-true, lt-ltb}
use Rattle.laws.specs.Table.{all_below}
use Rattle.laws.proofs.Answers.{passes_by}
use Rattle.laws.proofs.Tests.{not_both, and_of, all_at, all_of_lem}
use Rattle.order.specs.FullOrder.{InPlace, FullOrder}
use Rattle.order.specs.Lists.{Permutes, joined}
use Rattle.order.specs.Order.{AllDone, marked, Permitted, raster}
use Rattle.order.proofs.FullOrder.{full_fewer, permitted_full, full_long, each_full}
use Rattle.order.proofs.Orders.{permitted_append, marked_append}
use Rattle.order.proofs.Permuted.{marked_permuted}
use Rattle.order.proofs.Raster.{raster_permitted, raster_done}
use Rattle.order.proofs.Settled.{zero_at}
use Rattle.maps.specs.Neighbours.{beside, Adjoins, SliceMap}
use Rattle.maps.specs.Size.{total, address, size_ok}
use Rattle.maps.proofs.Beside.{available_inside, adjoins_before}
use Rattle.maps.proofs.Sizes.{size_is, size_yes}
use Rattle.turn_list.specs.Turn.{turn}
use Rattle.turn_list.proofs.Begun.{turn_permitted}
use Rattle.turn_list.proofs.Leading.{Leads, leading_is}
use Rattle.turn_count.specs.Count.{done_after, turn_count}
use Rattle.turn_count.proofs.After.{after_long}
use Rattle.turn_count.proofs.HowMany.{how_many}
use Rattle.order_check.specs.Check.{entry_ok, out_of_place, verdict_of, order_answer}
use Rattle.order_check.specs.Told.{Passes, WholeTurns, Told}
use Rattle.order_check.specs.inner.Places.{Checkable}
use Rattle.order_check.proofs.Named.{entry_is, entry_yes}

module _ (w h : ℕ) (slices : List ℕ) where
  abbrev Full : List ℕ → Type 0
  Full order = FullOrder (total w h) (Adjoins w slices) order

  -- ---- the rules
  module _ (order : List ℕ) where
    abbrev inside : ℕ → Bool
    inside i = ltb (get_or order i 0) (total w h)

    pub checkable_is : order_answer w h (length slices) order ≡ 0 → Checkable w h slices order
    unfolding order_answer
    checkable_is e =
        let p₁ = passes_by 0 (size_ok w h) _ e in
        let p₂ = passes_by 1 (eqb (length slices) (total w h)) _ p₁.1 in
        let p₃ = passes_by 12 (eqb (length order) (total w h)) _ p₂.1 in
        let p₄ = passes_by 12 (all_below (length order) inside) _ p₃.1 in
        record {
          map = record { size = size_is w h p₁.0; long = eqb-true (length slices) (total w h) p₂.0 };
          long = eqb-true (length order) (total w h) p₃.0;
          inside = λ i l. ltb-true (get_or order i 0) (total w h) (all_at (length order) inside p₄.0 i l);
        }

    checkable_yes : Checkable w h slices order → order_answer w h (length slices) order ≡ 0
    unfolding order_answer
    checkable_yes c = rw (
      size_yes w h c.map.size,
      eq-eqb (length slices) (total w h) c.map.long,
      eq-eqb (length order) (total w h) c.long,
      all_of_lem (length order) inside (λ i l. lt-ltb (get_or order i 0) (total w h) (c.inside i l)),
    )

    -- ---- yes and no
    abbrev ok : ℕ → Bool
    ok = entry_ok w slices order

    verdict_yes : all_below (length order) ok ≡ true → verdict_of w slices order ≡ 1
    unfolding verdict_of
    verdict_yes e = rw e

    verdict_is : verdict_of w slices order ≡ 1 → all_below (length order) ok ≡ true
    unfolding verdict_of
    verdict_is = go (all_below (length order) ok)
      where
        go : (b : Bool) → ◌≡◌ {A = ℕ} (cond b 1 0) 1 → b ≡ true
        go true e = refl
        go false e = absurd (omega arith)

    verdict_no : ¬ (verdict_of w slices order ≡ 1) → verdict_of w slices order ≡ 0
    unfolding verdict_of
    verdict_no = go (all_below (length order) ok)
      where
        go : (b : Bool) → ¬ (◌≡◌ {A = ℕ} (cond b 1 0) 1) → ◌≡◌ {A = ℕ} (cond b 1 0) 0
        go true n = absurd (n refl)
        go false n = refl

    full_is : Passes w h slices order → Full order
    full_is p =
        let c = checkable_is p.answers in
        each_full (total w h) (Adjoins w slices) order c.long c.inside
        (λ i l. entry_is order w slices i (all_at (length order) ok (verdict_is p.yes) i l))

    pub full_yes : SliceMap w h slices → Full order → Passes w h slices order
    full_yes m f = record {
      answers = checkable_yes (record { map = m; long = full_long (total w h) (Adjoins w slices) order f; inside = f.inside });
      yes = verdict_yes (all_of_lem (length order) ok (λ i l. entry_yes order w slices i (f.each i l)));
    }

    -- ---- where it is no
    leads : Leads (length order) ok (out_of_place w slices order)
    unfolding out_of_place
    leads = leading_is (length order) ok

    before : (i : ℕ) → i < out_of_place w slices order → InPlace (Adjoins w slices) order i
    before i l = entry_is order w slices i (leads.all i l)

    out : out_of_place w slices order < length order → ¬ InPlace (Adjoins w slices) order (out_of_place w slices order)
    out l p = not_both (entry_yes order w slices (out_of_place w slices order) p) (leads.stop l)

    -- the list's end is told exactly where all are in place
    pub end_yes : out_of_place w slices order ≡ length order → verdict_of w slices order ≡ 1
    end_yes e = verdict_yes (all_of_lem (length order) ok (λ i l. leads.all i (omega (arith, e))))

    end_is : verdict_of w slices order ≡ 1 → out_of_place w slices order ≡ length order
    end_is e = go (dec_lt (out_of_place w slices order) (length order))
      where
        go : Dec (out_of_place w slices order < length order) → out_of_place w slices order ≡ length order
        go (yes l) = absurd (not_both (all_at (length order) ok (verdict_is e) (out_of_place w slices order) l) (leads.stop l))
        go (no l) = omega (arith, leads.most)

    pub end_no : ¬ (out_of_place w slices order ≡ length order) → verdict_of w slices order ≡ 0
    end_no n = verdict_no (λ v. n (end_is v))

    -- the place that is told is the list's end exactly where it is yes
    pub end_told : (place : ℕ) → place ≡ out_of_place w slices order → verdict_of w slices order ≡ cond (eqb place (length order)) 1 0
    end_told place e = go (ℕ_discrete place (length order))
      where
        go : Dec (place ≡ length order) → verdict_of w slices order ≡ cond (eqb place (length order)) 1 0
        go (yes q) = rw (eq-eqb place (length order) q) (end_yes (sym e ∙ q))
        go (no n) = rw (ne_eqb place (length order) n) (end_no (λ q. n (e ∙ q)))

  -- ---- orders that pass
  module _ (m : SliceMap w h slices) where
    in_raster_lem : Passes w h slices (raster (total w h))
    in_raster_lem =
        full_yes (raster (total w h)) m
        (permitted_full (total w h) (Adjoins w slices) (raster (total w h))
        (raster_permitted (total w h) (Adjoins w slices) (λ a b l. adjoins_before w slices a b m.size.some_w)) (raster_done (total w h)))

    abbrev after : ℕ → List ℕ
    after t = done_after w h slices t

    one_more : (o : List ℕ) (t : ℕ) → Permutes o (turn w h slices (after t)) → marked o (after t) ≡ after (suc t)
    unfolding done_after
    one_more o t p = marked_permuted p (after t)

    turns_permitted : (os : List (List ℕ)) (t : ℕ) → WholeTurns w h slices t os → Permitted (total w h) (Adjoins w slices) (joined os) (after t)
    turns_permitted [] t k = tt
    turns_permitted (o ∷ os) t k =
        permitted_append (total w h) (Adjoins w slices) o (joined os) (after t) (turn_permitted w h slices (after t) o (after_long w h slices t) k.0)
        (subst (Permitted (total w h) (Adjoins w slices) (joined os)) (sym (one_more o t k.0)) (turns_permitted os (suc t) k.1))

    turns_marked : (os : List (List ℕ)) (t : ℕ) → WholeTurns w h slices t os → marked (joined os) (after t) ≡ after (t + length os)
    turns_marked [] t k = ap after (sym (add-zero t))
    turns_marked (o ∷ os) t k =
        marked_append o (joined os) (after t) ∙ ap (marked (joined os)) (one_more o t k.0) ∙ turns_marked os (suc t) k.1 ∙ ap after (omega arith)

    none_yet : after 0 ≡ replicate (total w h) 0
    unfolding done_after
    none_yet = refl

    in_turns : (os : List (List ℕ)) → WholeTurns w h slices 0 os → turn_count w h slices ≤ length os → Passes w h slices (joined os)
    in_turns os k l =
        full_yes (joined os) m
        (permitted_full (total w h) (Adjoins w slices) (joined os)
        (subst (Permitted (total w h) (Adjoins w slices) (joined os)) none_yet (turns_permitted os 0 k))
        (subst (λ d. AllDone (total w h) (marked (joined os) d)) none_yet
        (subst (AllDone (total w h)) (sym (turns_marked os 0 k)) (((how_many w h slices m.size).finished (0 + length os)).1 (omega arith)))))

-- ---- in one slice every neighbour in the picture is available
module _ (w h : ℕ) (slices : List ℕ) (m : SliceMap w h slices) where
  abbrev zeros : List ℕ
  zeros = replicate (total w h) 0

  one_number : (a b : ℕ) → Adjoins w slices a b → Adjoins w zeros a b
  one_number a b (k, t, is) =
      let same = eq-eqb _ _ (zero_at (total w h) (beside w (a % w) (a / w) k) ∙ sym (zero_at (total w h) (address w (a % w) (a / w)))) in
      (k, and_of (available_inside w (a % w) (a / w) slices k t) same, is)

  one_slice_lem : (order : List ℕ) → Passes w h zeros order → Passes w h slices order
  one_slice_lem order p = full_yes w h slices order m (full_fewer (λ a b l. one_number a b) (full_is w h zeros order p))

pub told : (w h : ℕ) (slices : List ℕ) → SliceMap w h slices → Told w h slices
told w h slices m = record {
  passes = λ order. (full_is w h slices order, full_yes w h slices order m);
  no = verdict_no w h slices;
  before = λ order e. before w h slices order;
  out = λ order e l. out w h slices order (omega (arith, (checkable_is w h slices order e).long));
  end = λ order e.
      let long = (checkable_is w h slices order e).long in
      (omega (arith, (leads w h slices order).most), ((λ q. end_yes w h slices order (q ∙ sym long)), (λ v. end_is w h slices order v ∙ long)));
  in_raster_lem = in_raster_lem w h slices m;
  in_turns = in_turns w h slices m;
  one_slice_lem = one_slice_lem w h slices m;
}

-- where the call answers 0, the slice map is a good one
pub told_by : (w h : ℕ) (slices order : List ℕ) → order_answer w h (length slices) order ≡ 0 → Told w h slices
told_by w h slices order e = told w h slices (checkable_is w h slices order e).map
