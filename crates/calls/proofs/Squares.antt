-- A macroblock of the picture lies in its planes, and each available neighbour with it: so the macroblock call finds room, and its square is local.
-- Assumes nothing.
use mathlib.Core.Path.{◌≡◌, refl, ap, ◌∙◌}
use mathlib.Core.Bool.{Bool, true, false, cond}
use mathlib.Core.List.{List, [], ◌∷◌, ◌++◌}
use Prim.Native.Nat.{ℕ, suc, ◌+◌, ◌*◌, ◌-◌, ◌≤◌, ◌<◌}
use native.Mathlib.Nat.{mul-le-mul_right, suc-mul}
use native.Mathlib.Omega.{arith}
use lib.Dec.{ltb}
use borrow.Author.Tests.{ltb-true, le-leb}
use Rattle.laws.specs.Answer.{answer}
use Rattle.laws.proofs.Answers.{holds}
use Rattle.laws.proofs.Tests.{and_both, and_of, implied_of, choose}
use Rattle.maps.specs.Neighbours.{Side, in_picture, available}
use Rattle.maps.specs.Neighbours.Side.{A, B, C, D}
use Rattle.maps.specs.Size.{Stands}
use Rattle.maps.proofs.Beside.{available_inside}
use Rattle.macroblock.specs.Rules.{room, rooms, permitted, early_rules, wait_rule, numbers_rule, rebuild_answer}
use Rattle.macroblock.specs.declared.Strides.{Strides}
use Rattle.macroblock.specs.Local.{Local, Promise}
use Rattle.macroblock.proofs.Promised.{promised}
use Rattle.waits.specs.Narrow.{Narrow}
use Rattle.waits.proofs.Narrow.{narrow}
use Rattle.calls.specs.Planes.{Plane, side}
use Rattle.calls.specs.Planes.Plane.{luma, cb, cr}
use Rattle.calls.specs.Rebuild.{Call, marks, waits_for, square_in}
use Rattle.calls.proofs.Available.{waits_available}
use Rattle.calls.proofs.Lending.{PlaneRoom}

module _ (q w h s n x y : ℕ) (q-pos : 0 < q) (fits : PlaneRoom q w h s n) (place : Stands w h x y) where
  below : suc y * q ≤ h * q
  below = mul-le-mul_right q place.in_h

  pub square_wide : x * q + q ≤ s
  square_wide = let u : suc x * q ≤ w * q = mul-le-mul_right q place.in_w in omega (arith, fits.wide, suc-mul x q)

  pub square_long : (y * q + (q - 1)) * s + (x * q + q) ≤ n
  square_long =
      let u : suc x * q ≤ w * q = mul-le-mul_right q place.in_w in
      let m : (y * q + (q - 1)) * s ≤ (q * h - 1) * s = mul-le-mul_right s (omega (arith, below, suc-mul y q)) in
      omega (arith, fits.long, suc-mul x q)

  pub square_room : (slices : List ℕ) → room q n s x y (available w slices x y) ≡ true
  unfolding room
  square_room slices =
      and_of (and_of (and_of (and_of (and_of (and_of
      (le-leb s 4096 fits.most)
      (le-leb (x * q + q) s square_wide))
      (le-leb ((y * q + (q - 1)) * s + (x * q + q)) n square_long))
      (implied_of (m A) _ (there A)))
      (implied_of (m B) _ (there B)))
      (implied_of (m C) _ (λ t. let u = and_both (ltb 0 y) (ltb (x + 1) w) (there C t) in and_of u.0 (le-leb (x * q + q + q) s (right (ltb-true (x + 1) w u.1))))))
      (implied_of (m D) _ (λ t. let u = and_both (ltb 0 y) (ltb 0 x) (there D t) in and_of u.1 u.0))
    where
      m : Side → Bool
      m = available w slices x y

      there : (k : Side) → m k ≡ true → in_picture w x y k ≡ true
      there k t = available_inside w x y slices k t

      right : x + 1 < w → x * q + q + q ≤ s
      right l = let u : suc (suc x) * q ≤ w * q = mul-le-mul_right q (omega arith) in omega (arith, fits.wide, suc-mul (suc x) q, suc-mul x q)

pub side_pos : (p : Plane) → 0 < side p
side_pos luma = omega arith
side_pos cb = omega arith
side_pos cr = omega arith

-- the neighbours that what a call leaves depends on: those that it waits for, and every available one where its record is not permitted, so that the call
-- is never accepted
abbrev pub depends_on : Call → Side → Bool
depends_on c d = cond (permitted (marks c) c.mb) (waits_for c d) (marks c d)

pub depends_marked : (c : Call) (d : Side) → depends_on c d ≡ true → marks c d ≡ true
depends_marked c d = choose (λ b. b ≡ true → marks c d ≡ true) (permitted (marks c) c.mb) (waits_for c d) (marks c d) (λ _. waits_available c d) (λ _ t. t)

-- a call whose macroblock lies in the picture, over planes of so many bytes each
module _ (c : Call) (bytes : Plane → ℕ) (fits : (p : Plane) → PlaneRoom (side p) c.width c.height (c.stride p) (bytes p)) (place : Stands c.width c.height c.x c.y) where
  abbrev strides : Strides
  strides = record { luma = c.stride luma; cb = c.stride cb; cr = c.stride cr }

  abbrev pub rooms_of : (Side → Bool) → Bool
  rooms_of m = rooms c.x c.y (bytes luma) (bytes cb) (bytes cr) strides m

  pub rooms_hold : rooms_of (marks c) ≡ true
  rooms_hold = and_of (and_of (room_in luma) (room_in cb)) (room_in cr)
    where
      room_in : (p : Plane) → room (side p) (bytes p) (c.stride p) c.x c.y (marks c) ≡ true
      room_in p = square_room (side p) c.width c.height (c.stride p) (bytes p) c.x c.y (side_pos p) (fits p) place c.slices

  -- the macroblock call finds room, so that its answer is that of its other rules
  pub by_macroblock : (m : Side → Bool) (ready : Bool) {r : ℕ} → m ≡ marks c → r ≡ rebuild_answer (rooms_of m) m ready c.mb
      → r ≡ answer (early_rules (marks c) c.mb ++ wait_rule ready ∷ numbers_rule c.mb ∷ [])
  by_macroblock m ready {r} e f =
      f ∙ ap (λ n. rebuild_answer (rooms_of n) n ready c.mb) e ∙ holds 2 (early_rules (marks c) c.mb ++ wait_rule ready ∷ numbers_rule c.mb ∷ []) rooms_hold

  -- and its promise holds in each plane
  kept_promise : Promise c.x c.y (bytes luma) (bytes cb) (bytes cr) strides (marks c) c.mb
  kept_promise = promised c.x c.y (bytes luma) (bytes cb) (bytes cr) strides (marks c) c.mb rooms_hold

  pub square_local : (p : Plane) → Local (bytes p) (side p) (c.stride p) c.x c.y (marks c) (square_in c p)
  square_local luma = kept_promise.luma
  square_local cb = kept_promise.cb
  square_local cr = kept_promise.cr

  -- with a permitted record it depends on those only that it waits for
  square_narrow : permitted (marks c) c.mb ≡ true → (p : Plane) → Local (bytes p) (side p) (c.stride p) c.x c.y (waits_for c) (square_in c p)
  square_narrow ok = elim [ luma ↦ w.luma | cb ↦ w.cb | cr ↦ w.cr ]
    where
      w : Narrow c.x c.y (bytes luma) (bytes cb) (bytes cr) strides (marks c) c.mb
      w = narrow c.x c.y (bytes luma) (bytes cb) (bytes cr) strides (marks c) c.mb rooms_hold ok

  pub square_depends : (p : Plane) → Local (bytes p) (side p) (c.stride p) c.x c.y (depends_on c) (square_in c p)
  square_depends p = go (permitted (marks c) c.mb) refl
    where
      go : (b : Bool) → permitted (marks c) c.mb ≡ b → Local (bytes p) (side p) (c.stride p) c.x c.y (λ d. cond b (waits_for c d) (marks c d)) (square_in c p)
      go true e = square_narrow e p
      go false e = square_local p
