-- After t turns exactly the macroblocks are done that are due by then, so that the number of turns is when the last is due. Assumes nothing.
use mathlib.Core.Path.{◌≡◌, sym, ap, subst, ◌∙◌}
use mathlib.Core.Bool.{true, false, not}
use mathlib.Core.Logic.{◌⊎◌, inl, inr, ◌↔◌}
use mathlib.Core.List.{List, []}
use Prim.Native.Nat.{ℕ, zero, suc, ◌+◌, ◌*◌, ◌-◌, ◌/◌, ◌%◌, ◌<◌, ◌≤◌}
use native.Mathlib.Decide.{ℕ_discrete, dec_lt}
use native.Mathlib.Nat.{le_refl, div-add-mod'}
use native.Mathlib.Omega.{arith}
use lib.ListN.{get_or, length, length-replicate}
use Rattle.laws.specs.Table.{all_below}
use Rattle.laws.proofs.Tests.{no_from, all_at, all_of_lem}
use Rattle.order.specs.Lists.{Names}
use Rattle.order.specs.Order.{Done, AllDone}
use Rattle.order.proofs.Orders.{length_marked, marked_still, marked_named, marked_only}
use Rattle.order.proofs.Settled.{none_done}
use Rattle.order.proofs.Undone.{some_first}
use Rattle.maps.specs.Done.{is_done}
use Rattle.maps.specs.Neighbours.{beside_x, beside_y}
use Rattle.maps.specs.Size.{total, address, Size, Stands}
use Rattle.maps.proofs.Beside.{available_at}
use Rattle.maps.proofs.Sizes.{address_inside, place_of}
use Rattle.maps.proofs.Waiting.{done_is, done_yes}
use Rattle.turn_list.specs.Turn.{turn}
use Rattle.turn_list.proofs.Begun.{turn_begins}
use Rattle.turn_list.proofs.Leading.{leading_is, leads_same}
use Rattle.turn_list.proofs.Startable.{turn_names, turn_starts, turn_first}
use Rattle.turn_count.specs.Count.{done_after, unfinished, turn_count}
use Rattle.turn_count.specs.Due.{due, latest}
use Rattle.turn_count.proofs.Due.{waits_due, due_waits, due_some, due_row, due_address, due_column, due_wave}
use Rattle.turn_count.proofs.Latest.{latest_upper, latest_least}

module _ (w h : ℕ) (slices : List ℕ) where
  abbrev after : ℕ → List ℕ
  after t = done_after w h slices t

  abbrev listed : ℕ → List ℕ
  listed t = turn w h slices (after t)

  pub after_long : (t : ℕ) → length (after t) ≡ total w h
  unfolding done_after
  after_long zero = length-replicate (total w h) 0
  after_long (suc t) = length_marked (listed t) (after t) ∙ after_long t

  inside : (t b : ℕ) → Names (listed t) b → b < length (after t)
  inside t b n = omega (arith, (turn_begins w h slices (after t) b n).inside, after_long t)

  -- ---- one more turn
  none_yet : (a : ℕ) → ¬ Done (after 0) a
  unfolding done_after
  none_yet a = none_done (total w h) a

  more_only : (t a : ℕ) → Done (after (suc t)) a → Done (after t) a ⊎ Names (listed t) a
  unfolding done_after
  more_only t a e = marked_only (listed t) (after t) a e

  more_still : (t a : ℕ) → Done (after t) a → Done (after (suc t)) a
  unfolding done_after
  more_still t a e = marked_still (listed t) (after t) a (inside t) e

  more_named : (t a : ℕ) → Names (listed t) a → Done (after (suc t)) a
  unfolding done_after
  more_named t a n = marked_named (listed t) (after t) a (inside t) n

  -- done by turn t, for every place: what is listed next is due in turn t + 1
  abbrev DoneBy : ℕ → Type 0
  DoneBy t = (x y : ℕ) → Stands w h x y → Done (after t) (address w x y) ↔ (due w slices x y ≤ t)

  module _ (t : ℕ) (by : DoneBy t) (x y : ℕ) (p : Stands w h x y) where
    in_row : (i : ℕ) → i < x → Stands w h i y
    in_row i l = record { in_w = omega (arith, p.in_w); in_h = p.in_h }

    listed_by : Names (listed t) (address w x y) → due w slices x y ≤ suc t
    listed_by n =
        let s = turn_starts w slices (after t) h x y p.in_w n in
        waits_due w slices t x y (record {
          before = λ l. let low : x - 1 < x = omega arith in (by (x - 1) y (in_row (x - 1) low)).0 (s.left (x - 1) low);
          sides = λ k e. let b = available_at w x y slices k p.in_w e in
              (by (beside_x x k) (beside_y y k) (record { in_w = b.column; in_h = omega (arith, b.row, p.in_h) })).0 (s.ready k e);
        })

    by_listed : due w slices x y ≤ suc t → ¬ Done (after t) (address w x y) → Names (listed t) (address w x y)
    by_listed l u =
        turn_names w slices (after t) h x y p (record {
          undone = u;
          left = λ i b. (by i y (in_row i b)).1 (omega (arith, due_row w slices i x y b));
          ready = λ k e. let b = available_at w x y slices k p.in_w e in
              (by (beside_x x k) (beside_y y k) (record { in_w = b.column; in_h = omega (arith, b.row, p.in_h) })).1 ((due_waits w slices t x y l).sides k e);
        })

    by_more : Done (after (suc t)) (address w x y) → due w slices x y ≤ suc t
    by_more e = go (more_only t (address w x y) e)
      where
        go : Done (after t) (address w x y) ⊎ Names (listed t) (address w x y) → due w slices x y ≤ suc t
        go (inl d) = omega (arith, (by x y p).0 d)
        go (inr n) = listed_by n

    more_by : due w slices x y ≤ suc t → Done (after (suc t)) (address w x y)
    more_by l = go (ℕ_discrete (get_or (after t) (address w x y) 0) 1)
      where
        go : Dec (Done (after t) (address w x y)) → Done (after (suc t)) (address w x y)
        go (yes d) = more_still t (address w x y) d
        go (no u) = more_named t (address w x y) (by_listed l u)

  pub done_due : (t : ℕ) → DoneBy t
  done_due zero x y p = ((λ e. absurd (none_yet (address w x y) e)), (λ l. absurd (omega (arith, due_some w slices x y))))
  done_due (suc t) x y p = (by_more t (done_due t) x y p, more_by t (done_due t) x y p)

  pub listed_due : (t x y : ℕ) → Stands w h x y → Names (listed t) (address w x y) ↔ (due w slices x y ≡ suc t)
  listed_due t x y p = (
    (λ n. omega (arith, listed_by t (done_due t) x y p n, later n)),
    (λ e. by_listed t (done_due t) x y p (omega arith) (λ d. omega (arith, (done_due t x y p).0 d))),
  )
    where
      later : Names (listed t) (address w x y) → t < due w slices x y
      later n = go (dec_lt t (due w slices x y))
        where
          go : Dec (t < due w slices x y) → t < due w slices x y
          go (yes l) = l
          go (no l) = absurd ((turn_starts w slices (after t) h x y p.in_w n).undone ((done_due t x y p).1 (omega arith)))

  -- ---- rows and the whole
  module _ (s : Size w h) where
    abbrev end : ℕ → ℕ
    end y = due w slices (w - 1) y

    in_end : (y : ℕ) → y < h → Stands w h (w - 1) y
    in_end y l = record { in_w = omega (arith, s.some_w); in_h = l }

    by_end : (t x y : ℕ) → x < w → end y ≤ t → due w slices x y ≤ t
    by_end t x y l e = go (dec_lt x (w - 1))
      where
        go : Dec (x < w - 1) → due w slices x y ≤ t
        go (yes b) = omega (arith, due_row w slices x (w - 1) y b)
        go (no b) = let q : x ≡ w - 1 = omega arith in subst (λ i. due w slices i y ≤ t) (sym q) e

    pub row_due : (t y : ℕ) → y < h → ((x : ℕ) → x < w → Done (after t) (address w x y)) ↔ (end y ≤ t)
    row_due t y l = (
      (λ f. (done_due t (w - 1) y (in_end y l)).0 (f (w - 1) (in_end y l).in_w)),
      (λ e x b. (done_due t x y (record { in_w = b; in_h = l })).1 (by_end t x y b e)),
    )

    pub all_due : (t : ℕ) → AllDone (total w h) (after t) ↔ (latest h end ≤ t)
    all_due t = (
      (λ f. latest_least h end t (λ y l. (row_due t y l).0 (λ x b. f (address w x y) (address_inside w h x y (record { in_w = b; in_h = l }))))),
      (λ m a l. let p = place_of w h a s.some_w l in
          subst (Done (after t)) (div-add-mod' a w)
          ((row_due t (a / w) p.in_h).1 (omega (arith, latest_upper h end (a / w) p.in_h)) (a % w) p.in_w)),
    )

    -- ---- how many
    unfinished_yes : (t : ℕ) → ¬ AllDone (total w h) (after t) → unfinished w h slices t ≡ true
    unfinished_yes t n =
        ap not (no_from (all_below (total w h) (is_done (after t))) (λ e a l. done_is (after t) a (all_at (total w h) (is_done (after t)) e a l)) n)

    unfinished_no : (t : ℕ) → AllDone (total w h) (after t) → unfinished w h slices t ≡ false
    unfinished_no t f = ap not (all_of_lem (total w h) (is_done (after t)) (λ a l. done_yes (after t) a (f a l)))

    end_most : latest h end ≤ total w h
    end_most =
        latest_least h end (total w h) (λ y l. omega (arith, due_address w slices (w - 1) y (in_end y l).in_w, address_inside w h (w - 1) y (in_end y l)))

    pub count_last : turn_count w h slices ≡ latest h end
    unfolding turn_count
    count_last =
        leads_same _ (unfinished w h slices) _ (latest h end) (leading_is _ (unfinished w h slices)) (record {
          most = end_most;
          all = λ t l. unfinished_yes t (λ f. omega (arith, (all_due t).0 f));
          stop = λ _. unfinished_no (latest h end) ((all_due (latest h end)).1 (le_refl (latest h end)));
        })

    pub finished : (t : ℕ) → AllDone (total w h) (after t) ↔ (turn_count w h slices ≤ t)
    finished t = rw count_last (all_due t)

    pub some : (t : ℕ) → t < turn_count w h slices → ¬ (listed t ≡ [])
    some t l e =
        let f = some_first (after t) (total w h) (λ d. omega (arith, (finished t).0 d)) in
        subst (λ m. Names m f.0) e (turn_first w slices (after t) h f.0 s.some_w f.1)

    -- ---- for every slice map
    pub least : w ≤ turn_count w h slices
    least = omega (arith, count_last, latest_upper h end 0 s.some_h, due_column w slices (w - 1) 0, s.some_w)

    pub most : turn_count w h slices ≤ w + 2 * (h - 1)
    most =
        omega (arith, count_last, latest_least h end (w + 2 * (h - 1)) (λ y l. omega (arith, s.some_w, due_wave w slices (w - 1) y (in_end y l).in_w)))
