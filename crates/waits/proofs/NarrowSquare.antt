-- A square rebuilt from permitted modes depends on the macroblocks only that hold what its blocks read. For every cut, predictor and set of neighbours that
-- has all these. Assumes nothing.
use mathlib.Core.Path.{◌≡◌, refl, sym, ap, ◌∙◌}
use mathlib.Core.Logic.{inl, inr}
use mathlib.Core.Bool.{Bool, true, false, cond}
use mathlib.Core.List.{List}
use Prim.Native.Nat.{ℕ, ◌+◌, ◌*◌, ◌-◌, ◌/◌, ◌%◌, ◌<◌, ◌≤◌, min}
use native.Mathlib.Nat.{mod-lt}
use native.Mathlib.Omega.{arith}
use borrow.Author.Tests.{ne_eqb, leb-true, leb-false}
use lib.Dec.{T, leb}
use lib.IntN.{ℤ, pos, ◌+ℤ◌}
use lib.ListN.{get_or, length}
use Rattle.laws.proofs.Tables.{get_d_table}
use Rattle.laws.proofs.Tests.{T_true, true_t, choose, not_both}
use Rattle.order.specs.Order.{Alike}
use Rattle.order.specs.Parts.{Parts}
use Rattle.order.proofs.Parts.{parts_reads}
use Rattle.basics.specs.Clip.{Clip1}
use Rattle.basics.specs.Near.{near, Agree}
use Rattle.basics.proofs.Near.{near_above, near_left}
use Rattle.maps.specs.Neighbours.{Side, beside_x, beside_y}
use Rattle.maps.specs.Neighbours.Side.{A, B, C, D}
use Rattle.cut.specs.Cut.{Cut, scan_x, scan_y, Holder, held_by, is_there, sides_of, square_sides}
use Rattle.cut.specs.Cut.Holder.{own, other, nobody}
use Rattle.cut.specs.inner.Blocks.{Scan}
use Rattle.macroblock.specs.Local.{Local}
use Rattle.macroblock.specs.Square.{place_at, above_of, left_of, corner_of, Rule, part_near, part, all_parts}
use Rattle.macroblock.specs.inner.Blocks.{SidesIn, StandsIn}
use Rattle.macroblock.proofs.Held.{row_at, column_at, Held, held}
use Rattle.macroblock.proofs.Locality.{InPart, block_cover, put_at, parts, square_local}
use Rattle.macroblock.proofs.Places.{At}
use Rattle.reads.specs.Groups.{Group, Samples, group_size, groups_of, near_by}
use Rattle.reads.specs.Groups.Group.{above, left, corner, above_right}
use Rattle.reads.specs.Exactly.{Predictor, permits, Exactly}
use Rattle.reads.proofs.Exactly.{Unread}
use Rattle.waits.specs.Waits.{side_of, holder_of, is_holder}
use Rattle.waits.proofs.Holders.{only_self, group_there}

-- a set that has the macroblock that holds some samples, if one does, holds them
held_in : (marks W : Side → Bool) (h : Holder) → held_by marks h ≡ true → ((d : Side) → is_holder d h ≡ true → W d ≡ true) → T (held_by W h)
held_in marks W own e f = tt
held_in marks W (other d) e f = true_t (W d) (f d (only_self d))
held_in marks W nobody e f = absurd (not_both {b = false} e refl)

module _ (P : Predictor) (m wide : ℕ) (reach : wide ≤ 2 * P.side) (exact : Exactly P) (unread : Unread P wide)
    (modes : ℕ → ℕ) (res : ℕ → ℕ → ℕ → ℤ) (n s x y : ℕ) (marks W : Side → Bool) (S : Scan m) (some : 0 < P.side)
    (stands : StandsIn (P.side * m) (place_at s y x) n (square_sides marks))
    (ok : (k : ℕ) → k < m * m → permits P (groups_of (sides_of m marks k)) (modes k) ≡ true)
    (marked : (d : Side) → W d ≡ true → marks d ≡ true)
    (covers : (k : ℕ) → k < m * m → (g : Group) (d : Side) → P.reads (groups_of (sides_of m marks k)) (modes k) g ≡ true
    → is_holder d (holder_of m k g) ≡ true → W d ≡ true) where
  abbrev q : ℕ
  q = P.side

  abbrev cut : Cut
  cut = record { side = P.side; across = m; wide = wide }

  abbrev rule : Rule
  rule k sides p x y = Clip1 (pos (P.pred (modes k) sides.above sides.left sides.corner p x y) +ℤ res k x y)

  abbrev sample_in : List ℕ → ℕ → ℕ
  sample_in p i = get_or p i 0

  -- what may be read
  abbrev Outside : ℕ → Type 0
  Outside i = (d : Side) × T (W d) × At (P.side * m) (place_at s (beside_y y d) (beside_x x d)) i

  fewer : SidesIn (P.side * m) (place_at s y x) (square_sides W)
  fewer = record {
    on_above = λ e. stands.beside.on_above (marked B e);
    on_left = λ e. stands.beside.on_left (marked A e);
    on_corner = λ e. stands.beside.on_corner (marked D e);
    on_above_right = λ e. stands.beside.on_above_right (marked C e);
  }

  module _ (k : ℕ) (hk : k < m * m) where
    abbrev Y : ℕ
    Y = y * m + scan_y k

    abbrev Z : ℕ
    Z = x * m + scan_x k

    abbrev groups : Group → Bool
    groups = groups_of (sides_of m marks k)

    -- the samples beside the block as they stand in a plane, absent ones too
    abbrev samples_in : List ℕ → Samples
    samples_in p g t = get_or p (row_at q Y (side_of g) t * s + column_at q Z (side_of g) t) 0

    -- where there are any, they are the ones that the block is rebuilt from
    module _ (p : List ℕ) where
      along : {u v : ℕ} → u ≡ v → get_or p ((Y * q - 1) * s + u) 0 ≡ get_or p ((Y * q - 1) * s + v) 0
      along e = ap (λ z. get_or p ((Y * q - 1) * s + z) 0) e

      above_is : (r : Bool) (i : ℕ) → 1 ≤ i → i ≤ wide
          → get_or p ((Y * q - 1) * s + (Z * q + min (i - 1) (cond r (2 * q - 1) (q - 1)))) 0
          ≡ cond (leb i q) (samples_in p above (i - 1)) (cond r (samples_in p above_right (i - q - 1)) (samples_in p above (q - 1)))
      above_is true i low high =
          choose (λ v. get_or p ((Y * q - 1) * s + (Z * q + min (i - 1) (2 * q - 1))) 0 ≡ v) (leb i q) _ _
          (λ b. along (omega arith)) (λ b. let l = leb-false i q b in along (omega arith))
      above_is false i low high =
          choose (λ v. get_or p ((Y * q - 1) * s + (Z * q + min (i - 1) (q - 1))) 0 ≡ v) (leb i q) _ _
          (λ b. let l = leb-true i q b in along (omega arith)) (λ b. let l = leb-false i q b in along (omega arith))

      corner_is : groups corner ≡ true → part_near cut rule s x y marks k p 0 0 ≡ near_by q (groups above_right) (samples_in p) 0 0
      unfolding near corner_of near_by
      corner_is hc = rw hc

      link : Agree wide q (groups above) (groups left) (groups corner) (part_near cut rule s x y marks k p) (near_by q (groups above_right) (samples_in p))
      unfolding above_of left_of near_by
      link = record {
        on_above = λ ha i low high.
            sym (near_above _ _ _ (i - 1) i (omega arith)) ∙ get_d_table 0 wide _ (i - 1) (omega arith) ∙ rw (ha, ne_eqb i 0 (omega arith)) (above_is (groups above_right) i low high);
        on_left = λ hl j low high.
            sym (near_left _ _ _ (j - 1) j (omega arith)) ∙ get_d_table 0 q _ (j - 1) (omega arith) ∙ rw (hl, ne_eqb j 0 (omega arith));
        on_corner = corner_is;
      }

    -- over two planes that agree on the earlier blocks and on what may be read, the block's prediction is the same
    module _ (p p' : List ℕ) (e : Alike sample_in Outside p p') (f : (j : ℕ) → j < k → Alike sample_in (InPart q m (place_at s y x) S j) p p') where
      few : (g : Group) (t : ℕ) → t < group_size q g → t < q
      few above t h = h
      few left t h = h
      few corner t h = omega arith
      few above_right t h = h

      held_by_lem : (g : Group) → P.reads groups (modes k) g ≡ true → T (is_there m W k (side_of g))
      unfolding is_there
      held_by_lem g r = held_in marks W (holder_of m k g) (sym (group_there m marks k g) ∙ exact.there groups (modes k) g r) (λ d. covers k hk g d r)

      read_same : (g : Group) → P.reads groups (modes k) g ≡ true → (t : ℕ) → t < group_size q g → samples_in p g t ≡ samples_in p' g t
      read_same g r t h = go (held q m s x y W k some S hk stands.block.wide fewer (side_of g) t (few g t h) (held_by_lem g r))
        where
          i : ℕ
          i = row_at q Y (side_of g) t * s + column_at q Z (side_of g) t

          go : Held q m s x y W k some S hk stands.block.wide fewer i → samples_in p g t ≡ samples_in p' g t
          go (inl (j, l, u)) = f j l i u
          go (inr (d, v, u)) = e i (d, v, u)

      predicted_same : (u v : ℕ) → u < q → v < q
          → P.pred (modes k) (groups above) (groups left) (groups corner) (part_near cut rule s x y marks k p) u v
          ≡ P.pred (modes k) (groups above) (groups left) (groups corner) (part_near cut rule s x y marks k p') u v
      predicted_same u v hu hv =
          unread (modes k) (groups above) (groups left) (groups corner) _ _ (ok k hk) (link p) u v hu hv
          ∙ exact.decides groups (modes k) (ok k hk) (samples_in p) (samples_in p') read_same u v hu hv
          ∙ sym (unread (modes k) (groups above) (groups left) (groups corner) _ _ (ok k hk) (link p') u v hu hv)

  -- the parts of the square, with fewer places outside that may be read
  fewer_parts : Parts sample_in (λ p. length p ≡ n) Outside (m * m) (InPart q m (place_at s y x) S) (part cut rule s x y marks)
  fewer_parts =
      let all = parts cut rule n s x y marks S some reach stands in
      record {
        apart = all.apart;
        outside = λ k i hk t (d, v, u). all.outside k i hk t (d, true_t (marks d) (marked d (T_true (W d) v)), u);
        keeps = all.keeps;
        writes = all.writes;
        reads = λ k p p' hk o o' e f i t.
            put_at cut rule n s x y marks S some reach stands k p i hk o t
            ∙ ap (λ (z : ℕ). Clip1 (pos z +ℤ res k (i % s % q) (i / s % q))) (predicted_same k hk p p' e f (i % s % q) (i / s % q) (mod-lt (i % s) some) (mod-lt (i / s) some))
            ∙ sym (put_at cut rule n s x y marks S some reach stands k p' i hk o' t);
      }

  pub narrow_square : Local n (P.side * m) s x y W (all_parts cut rule s x y marks)
  narrow_square =
      let all = square_local cut rule n s x y marks S some reach stands in
      record {
        keeps = all.keeps;
        writes = all.writes;
        reads = λ p p' o o' e i t.
            let b = block_cover q m (place_at s y x) S i t in
            parts_reads fewer_parts p p' o o' (λ j (d, v, u). e d v j u) b.0 b.1 i b.2;
      }
