-- Rule 2 as facts: `X-is` says what a test that holds tells, `X-yes` shows the test, and `plane_no` refutes it. Assumes nothing.
use mathlib.Core.Path.{◌≡◌}
use mathlib.Core.Bool.{true, false, ◌&&◌}
use Prim.Native.Nat.{ℕ, ◌+◌, ◌*◌, ◌-◌, ◌≤◌}
use lib.Dec.{eqb, leb}
use borrow.Author.Tests.{eqb-true, leb-true, eq-eqb, le-leb}
use Rattle.laws.proofs.Tests.{no_from, and_both}
use Rattle.maps.specs.Size.{total}
use Rattle.calls.specs.Planes.{Plane, side, plane_ok, room_ok}
use Rattle.calls.specs.Planes.Plane.{luma, cb, cr}

-- a plane of macroblocks of side k
pub record PlaneRoom (k w h stride bytes : ℕ) : Type 0 where
  pub wide : k * w ≤ stride
  pub most : stride ≤ 4096
  pub long : (k * h - 1) * stride + k * w ≤ bytes

-- all that is lent
pub record LentRoom (w h : ℕ) (stride bytes : Plane → ℕ) (done slices accepted : ℕ) : Type 0 where
  pub planes : (p : Plane) → PlaneRoom (side p) w h (stride p) (bytes p)
  pub done_long : done ≡ total w h
  pub slices_long : slices ≡ total w h
  pub few : accepted ≤ total w h

module _ (k w h stride bytes : ℕ) where
  pub plane_is : plane_ok k w h stride bytes ≡ true → PlaneRoom k w h stride bytes
  unfolding plane_ok
  plane_is e =
      let e₂ = and_both (leb (k * w) stride && leb stride 4096) (leb ((k * h - 1) * stride + k * w) bytes) e in
      let e₁ = and_both (leb (k * w) stride) (leb stride 4096) e₂.0 in
      record { wide = leb-true _ _ e₁.0; most = leb-true _ _ e₁.1; long = leb-true _ _ e₂.1 }

  pub plane_yes : PlaneRoom k w h stride bytes → plane_ok k w h stride bytes ≡ true
  unfolding plane_ok
  plane_yes p = simp (le-leb (k * w) stride p.wide, le-leb stride 4096 p.most, le-leb ((k * h - 1) * stride + k * w) bytes p.long)

  pub plane_no : (PlaneRoom k w h stride bytes → ⊥) → plane_ok k w h stride bytes ≡ false
  plane_no f = no_from (plane_ok k w h stride bytes) plane_is f

module _ (w h : ℕ) (stride bytes : Plane → ℕ) (done slices accepted : ℕ) where
  pub room_is : room_ok w h stride bytes done slices accepted ≡ true → LentRoom w h stride bytes done slices accepted
  unfolding room_ok
  room_is e =
      let l = plane_ok 16 w h (stride luma) (bytes luma) in
      let b = plane_ok 8 w h (stride cb) (bytes cb) in
      let r = plane_ok 8 w h (stride cr) (bytes cr) in
      let d = eqb done (total w h) in
      let t = eqb slices (total w h) in
      let e₅ = and_both (l && b && r && d && t) (leb accepted (total w h)) e in
      let e₄ = and_both (l && b && r && d) t e₅.0 in
      let e₃ = and_both (l && b && r) d e₄.0 in
      let e₂ = and_both (l && b) r e₃.0 in
      let e₁ = and_both l b e₂.0 in
      record {
        planes = elim [ luma ↦ plane_is 16 w h (stride luma) (bytes luma) e₁.0 | cb ↦ plane_is 8 w h (stride cb) (bytes cb) e₁.1 | cr ↦ plane_is 8 w h (stride cr) (bytes cr) e₂.1 ];
        done_long = eqb-true done (total w h) e₃.1;
        slices_long = eqb-true slices (total w h) e₄.1;
        few = leb-true accepted (total w h) e₅.1;
      }

  pub room_yes : LentRoom w h stride bytes done slices accepted → room_ok w h stride bytes done slices accepted ≡ true
  unfolding room_ok
  room_yes g =
      rw (
        plane_yes 16 w h (stride luma) (bytes luma) (g.planes luma),
        plane_yes 8 w h (stride cb) (bytes cb) (g.planes cb),
        plane_yes 8 w h (stride cr) (bytes cr) (g.planes cr),
        eq-eqb done (total w h) g.done_long,
        eq-eqb slices (total w h) g.slices_long,
        le-leb accepted (total w h) g.few,
      )
