-- The samples of a slice follow from that slice's records: a macroblock is rebuilt from neighbours of its own slice, by address before it, and so two
-- decoded pictures are alike there, macroblock by macroblock; what is done in a run is as decoded. Assumes nothing.
use mathlib.Core.Path.{◌≡◌, refl, sym, ap, subst, ◌∙◌}
use mathlib.Core.Bool.{Bool, true}
use mathlib.Core.List.{List, [], ◌∷◌}
use Prim.Native.Nat.{ℕ, zero, suc, ◌+◌, ◌*◌, ◌-◌, ◌/◌, ◌%◌, ◌<◌}
use native.Mathlib.Nat.{mod-lt, lt_trans, lt_of_lt_of_le, le_refl, le_of_suc-le-suc, not-suc-le-zero}
use native.Mathlib.Omega.{arith}
use lib.Arith.{digits_div, digits_mod}
use lib.Dec.{T}
use lib.ListN.{get_or, length}
use Rattle.laws.proofs.Digits.{pred_mul}
use Rattle.laws.proofs.Tests.{T_true}
use Rattle.order.specs.Driver.{after, play}
use Rattle.order.specs.Order.{Alike, Done}
use Rattle.order.proofs.Driver.{sound_run, taken_now}
use Rattle.maps.specs.Neighbours.{Side, beside_x, beside_y, beside}
use Rattle.maps.specs.Neighbours.Side.{A, B, C, D}
use Rattle.cut.specs.Cut.{square_sides}
use Rattle.macroblock.specs.Kinds.{luma_square, cb_square, cr_square}
use Rattle.macroblock.specs.Square.{in_block, place_at}
use Rattle.macroblock.specs.declared.Record.{Record}
use Rattle.macroblock.specs.inner.Blocks.{SidesIn}
use Rattle.macroblock.proofs.Places.{place_is}
use Rattle.macroblock.proofs.Rooms.{room_stands}
use Rattle.moved.specs.Moved.{Site, touching, SameAround, HasRoom, SameLeft}
use Rattle.moved.proofs.Moved.{moved}
use Rattle.calls.specs.Planes.{Plane, side}
use Rattle.calls.specs.Planes.Plane.{luma, cb, cr}
use Rattle.calls.specs.Rebuild.{Call, Lent, here, marks, Acceptable, answer_to, square_in}
use Rattle.calls.specs.Run.{Picture, total_of, offer, Awaits, Lends, Planes, decoded, sample_at, Region, driver, started, run, Own}
use Rattle.calls.proofs.AnyOrder.{any_order}
use Rattle.calls.proofs.Available.{waits_available}
use Rattle.calls.proofs.OnePicture.{fair, spares, offer_here, bytes, begins, planes_kept, stands, acceptable}
use Rattle.calls.proofs.Regions.{apart}
use Rattle.calls.proofs.Squares.{side_pos}
use Rattle.slices.specs.LostSlice.{InSlice, ShareSlice, SameSamples, LostSlice, OwnIn, Elsewhere, FirstIn, AmongOthers}
use Rattle.slices.proofs.Answers.{reads_own}
use Rattle.slices.proofs.Carried.{variant, carried, carried_in, carried_own}
use Rattle.slices.proofs.Decoded.{site_of, fixed, has_room, in_region}
use Rattle.slices.proofs.Leaves.{by_answer, keeps_samples, keeps_mark}

-- ---- a square in any of the planes
square_by : Plane → (Side → Bool) → Record → (x y stride : ℕ) → List ℕ → List ℕ
square_by luma m r x y s = luma_square x y m r s
square_by cb m r x y s = cb_square x y m r s
square_by cr m r x y s = cr_square x y m r s

square_by_lem : (c : Call) (p : Plane) (plane : List ℕ) → square_in c p plane ≡ square_by p (marks c) c.mb c.x c.y (c.stride p) plane
unfolding square_by
square_by_lem c luma plane = refl
square_by_lem c cb plane = refl
square_by_lem c cr plane = refl

moved_by : (p : Plane) (m : Side → Bool) (r : Record) (u v : Site) → HasRoom (side p) m u → HasRoom (side p) m v → SameAround (side p) m u v → SameLeft (side p) (square_by p m r) u v
unfolding square_by
moved_by luma m r = (moved m r).luma
moved_by cb m r = (moved m r).cb
moved_by cr m r = (moved m r).cr

-- an available neighbour of a macroblock of the slice is in it, at a smaller address
neighbour_in : (σ : ℕ) (g : Picture) (s : Lent) → Lends g s → (a : ℕ) → InSlice g σ a → (d : Side) → marks (offer g a) d ≡ true
    → (beside g.width (a % g.width) (a / g.width) d < a) × InSlice g σ (beside g.width (a % g.width) (a / g.width) d)
neighbour_in σ g s l a h d v =
    let b = beside g.width (a % g.width) (a / g.width) d in
    let lt : b < a = subst (λ n. b < n) (offer_here g a) (stands g s l a h.0 d v).before in
    (lt, (lt_trans lt h.0, reads_own (offer g a) d v ∙ ap (λ n. get_or g.slices n 0) (offer_here g a) ∙ h.1))

-- ---- a picture and another one of its size and slice map
module _ (σ : ℕ) (g : Picture) (stride : Plane → ℕ) (records : ℕ → Record) (same : (a : ℕ) → InSlice g σ a → g.records a ≡ records a) where
  abbrev g' : Picture
  g' = variant g stride records

  module _ (s s' : Lent) (lends : Lends g s) (lends' : Lends g' s') where
    abbrev now : Planes
    now = decoded g s.planes

    abbrev then : Planes
    then = decoded g' s'.planes

    -- macroblock a of the slice, where those before it are alike
    module _ (a : ℕ) (h : InSlice g σ a) (before : (b : ℕ) → b < a → InSlice g σ b → SameSamples g g' now then b) where
      abbrev m : Side → Bool
      m = marks (offer g a)

      abbrev x : ℕ
      x = a % g.width

      abbrev y : ℕ
      y = a / g.width

      abbrev u : Plane → Site
      u p = site_of g now a p

      abbrev v : Plane → Site
      v p = site_of g' then a p

      room_u : (p : Plane) → HasRoom (side p) m (u p)
      room_u = has_room g s lends a h.0

      room_v : (p : Plane) → HasRoom (side p) m (v p)
      room_v = has_room g' s' lends' a h.0

      module _ (p : Plane) where
        abbrev q : ℕ
        q = side p

        -- both show the same in a row and a column
        abbrev Same : (column row : ℕ) → Type 0
        Same column row = get_or (now p) (row * g.stride p + column) 0 ≡ get_or (then p) (row * stride p + column) 0

        in_neighbour : (d : Side) → T (m d) → (i j : ℕ) → i < q → j < q → Same (beside_x x d * q + i) (beside_y y d * q + j)
        in_neighbour d t i j hi hj =
            let w = g.width in
            let e = T_true (m d) t in
            let l = neighbour_in σ g s lends a h d e in
            let there = stands g s lends a h.0 d e in
            let row : beside w x y d / w ≡ beside_y y d = digits_div (beside_y y d) there.column in
            let column : beside w x y d % w ≡ beside_x x d = digits_mod (beside_y y d) there.column in
            subst (λ n. Same (n * q + i) (beside_y y d * q + j)) column
            (subst (λ n. Same (beside w x y d % w * q + i) (n * q + j)) row (before (beside w x y d) l.0 l.1 p i j hi hj))

        -- the last line before line z of squares is the last of the square before
        last : (z : ℕ) → 0 < z → (z - 1) * q + (q - 1) ≡ z * q - 1
        last z hz = omega (arith, pred_mul z q hz, side_pos p)

        around : SameAround q m (u p) (v p)
        around d t k hk = go d t
          where
            pos : q - 1 < q
            pos = omega (arith, side_pos p)

            at : SidesIn q (place_at (g.stride p) y x) (square_sides m)
            at = (room_stands q (length (now p)) (g.stride p) x y m (side_pos p) (room_u p)).beside

            go : (d : Side) → T (m d) → touching q (u p) d k ≡ touching q (v p) d k
            go A t = subst (λ n. Same n (y * q + k)) (last x (at.on_left (T_true (m A) t))) (in_neighbour A t (q - 1) k pos hk)
            go B t = subst (λ n. Same (x * q + k) n) (last y (at.on_above (T_true (m B) t))) (in_neighbour B t k (q - 1) hk pos)
            go C t = subst (λ n. Same ((x + 1) * q + k) n) (last y (at.on_above_right (T_true (m C) t)).0) (in_neighbour C t k (q - 1) hk pos)
            go D t =
                let e = at.on_corner (T_true (m D) t) in
                subst (λ n. Same (x * q - 1) n) (last y e.0)
                (subst (λ n. Same n ((y - 1) * q + (q - 1))) (last x e.1) (in_neighbour D t (q - 1) (q - 1) pos pos))

      alike_one : SameSamples g g' now then a
      alike_one p i j hi hj =
          let n = (y * side p + j) * g.stride p + (x * side p + i) in
          let n' = (y * side p + j) * stride p + (x * side p + i) in
          fixed g s lends a h.0 (p, n) (in_region g s lends a h.0 p i j hi hj)
          ∙ ap (λ l. get_or l n 0) (square_by_lem (offer g a) p (now p))
          ∙ moved_by p m (g.records a) (u p) (v p) (room_u p) (room_v p) (around p) i j hi hj
          ∙ ap (λ r. get_or (square_by p m r x y (stride p) (then p)) n' 0) (same a h)
          ∙ sym (ap (λ l. get_or l n' 0) (square_by_lem (offer g' a) p (then p)))
          ∙ sym (fixed g' s' lends' a h.0 (p, n') (in_region g' s' lends' a h.0 p i j hi hj))

    alike_below : (k a : ℕ) → a < k → InSlice g σ a → SameSamples g g' now then a
    alike_below zero a l h = absurd (not-suc-le-zero l)
    alike_below (suc k) a l h = alike_one a h (λ b lt. alike_below k b (lt_of_lt_of_le lt (le_of_suc-le-suc l)))

    alike : (a : ℕ) → InSlice g σ a → SameSamples g g' now then a
    alike a = alike_below (suc a) a (le_refl (suc a))

    -- a run of each
    alike_done : (cs cs' : List Call) → Own g cs (started g s) → Own g' cs' (started g' s') → (a : ℕ) → InSlice g σ a
        → Done (run g cs s).done a → Done (run g' cs' s').done a → SameSamples g g' (run g cs s).planes (run g' cs' s').planes a
    alike_done cs cs' o o' a h d d' p i j hi hj =
        (any_order g).final cs s lends o a h.0 d (p, _) (in_region g s lends a h.0 p i j hi hj)
        ∙ alike a h p i j hi hj
        ∙ sym ((any_order g').final cs' s' lends' o' a h.0 d' (p, _) (in_region g' s' lends' a h.0 p i j hi hj))

  lost_variant : LostSlice σ g g'
  lost_variant = record {
    finished = λ cs cs' s s' l l' o o' all all' a h. alike_done s s' l l' cs cs' o o' a h (all a h.0) (all' a h.0);
    half_way = λ cs cs' s s' l l' o o' a h d d'. alike_done s s' l l' cs cs' o o' a h d d';
    bytes = λ e now then a alike (p, i) t.
        let q = side p in
        let z = place_is q (g.stride p) (a / g.width) (a % g.width) i t in
        ap (λ n. get_or (now p) n 0) z
        ∙ alike p (i % g.stride p % q) (i / g.stride p % q) (mod-lt (i % g.stride p) (side_pos p)) (mod-lt (i / g.stride p) (side_pos p))
        ∙ ap (λ t. get_or (then p) ((a / g.width * q + i / g.stride p % q) * t + (a % g.width * q + i % g.stride p % q)) 0) (sym (e p))
        ∙ sym (ap (λ n. get_or (then p) n 0) z);
  }

pub lost_slice : (σ : ℕ) (g g' : Picture) → ShareSlice σ g g' → LostSlice σ g g'
lost_slice σ g g' e = subst (LostSlice σ g) is (lost_variant σ g g'.stride g'.records e.same_records)
  where
    is : variant g g'.stride g'.records ≡ g'
    is = λ i. record { width = e.same_width i; height = e.same_height i; stride = g'.stride; slices = e.same_slices i; records = g'.records }

-- ---- one picture, with anything for the other slices
module _ (σ : ℕ) (g : Picture) where
  -- the run is one with the records that it took
  final : (cs : List Call) (s : Lent) → Lends g s → OwnIn σ g cs (started g s) → (a : ℕ) → InSlice g σ a → Done (run g cs s).done a
      → Alike sample_at (Region g a) (run g cs s).planes (decoded g s.planes)
  final cs s l own a h d i t =
      let took = carried cs (started g s) g.records in
      let same : (b : ℕ) → InSlice g σ b → g.records b ≡ took b = λ b k. sym (carried_in σ g cs (started g s) g.records own b k.1 refl) in
      let l'' : Lends (variant g g.stride took) s = record { starts = l.starts; planes = l.planes; slices = l.slices } in
      (any_order (variant g g.stride took)).final cs s l'' (carried_own σ g cs (started g s) g.records own) a h.0 d i t
      ∙ sym ((lost_variant σ g g.stride took same).bytes (λ p. refl) (decoded g s.planes) (decoded (variant g g.stride took) s.planes) a
      (alike σ g g.stride took same s s l l'' a h) i t)

  -- a call for another slice writes elsewhere
  untouched : (cs : List Call) (s : Lent) → Elsewhere σ g cs s → (a : ℕ) → InSlice g σ a
      → Alike sample_at (Region g a) (play driver cs s).planes s.planes × (get_or (play driver cs s).done a 0 ≡ get_or s.done a 0)
  untouched [] s o a h = ((λ i t. refl), refl)
  untouched (c ∷ cs) s o a h =
      let rest = untouched cs (after driver c s) o.1 a h in
      ((λ i t. rest.0 i t ∙ kept_at i t), rest.1 ∙ by_answer c s (λ t. get_or t.done a 0 ≡ get_or s.done a 0) (λ e. keeps_mark c s e a (other e)) refl)
    where
      other : answer_to c s ≡ 0 → ¬ (a ≡ here c)
      other e k = (o.0 e).1 (ap (λ n. get_or g.slices n 0) (sym k) ∙ h.1)

      kept_at : Alike sample_at (Region g a) (after driver c s).planes s.planes
      kept_at (p, i) t =
          by_answer c s (λ t. get_or (t.planes p) i 0 ≡ get_or (s.planes p) i 0)
          (λ e. keeps_samples c s e p i (λ r.
          other e (apart (side p) (g.stride p) g.width a (here c) i t (subst (λ d. T (in_block (side p) (d.stride p) d.y d.x i)) (o.0 e).0 r)))) refl

  -- its first undone macroblock waits for none
  goes_on : (cs : List Call) (s : Lent) → Lends g s → (a : ℕ) → FirstIn g σ (run g cs s).done a → Acceptable (offer g a) → answer_to (offer g a) (run g cs s) ≡ 0
  goes_on cs s l a f ok =
      taken_now (fair (total_of g)) (spares (total_of g) (bytes g s l)) {N = Awaits g} (run g cs s)
      (sound_run (fair (total_of g)) (spares (total_of g) (bytes g s l)) cs (begins g s l) (λ p. ap (λ planes. length (planes p)) (planes_kept g s l)))
      (acceptable g s l a f.inside.0 ok) f.undone
      (λ b (k, w, is). let n = neighbour_in σ g s l a f.inside k (waits_available (offer g a) k w) in subst (Done (run g cs s).done) is (f.below _ n.0 n.1))

pub among_others : (σ : ℕ) (g : Picture) → AmongOthers σ g
among_others σ g = record { final = final σ g; untouched = untouched σ g; goes_on = goes_on σ g }
