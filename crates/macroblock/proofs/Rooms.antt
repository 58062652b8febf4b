-- Rule 2 as facts: a square for which there is room lies in its plane, and so do its marked neighbours. Assumes nothing.
use mathlib.Core.Path.{◌≡◌}
use mathlib.Core.Bool.{Bool, true, not, ◌&&◌, ◌||◌}
use Prim.Native.Nat.{ℕ, ◌+◌, ◌*◌, ◌-◌, ◌<◌}
use native.Mathlib.Omega.{arith}
use borrow.Author.Tests.{leb-true, ltb-true}
use lib.Dec.{ltb, leb}
use Rattle.laws.proofs.Tests.{and_left, and_right, and_both, implied}
use Rattle.maps.specs.Neighbours.{Side}
use Rattle.maps.specs.Neighbours.Side.{A, B, C, D}
use Rattle.macroblock.specs.declared.Strides.{Strides}
use Rattle.cut.specs.Cut.{square_sides}
use Rattle.macroblock.specs.Square.{place_at}
use Rattle.macroblock.specs.Rules.{room, rooms}
use Rattle.macroblock.specs.inner.Blocks.{StandsIn}

-- the square of side q
pub room_stands : (q len s x y : ℕ) (marks : Side → Bool) → 0 < q → room q len s x y marks ≡ true → StandsIn q (place_at s y x) len (square_sides marks)
unfolding room
room_stands q len s x y marks some e =
    let t₁ = leb s 4096 in let t₂ = leb (x * q + q) s in let t₃ = leb ((y * q + (q - 1)) * s + (x * q + q)) len in
    let ta = not (marks A) || ltb 0 x in let tb = not (marks B) || ltb 0 y in
    let tc = not (marks C) || (ltb 0 y && leb (x * q + q + q) s) in let td = not (marks D) || (ltb 0 x && ltb 0 y) in
    let e₆ = and_left (t₁ && t₂ && t₃ && ta && tb && tc) td e in
    let e₅ = and_left (t₁ && t₂ && t₃ && ta && tb) tc e₆ in
    let e₄ = and_left (t₁ && t₂ && t₃ && ta) tb e₅ in
    let e₃ = and_left (t₁ && t₂ && t₃) ta e₄ in
    let e₂ = and_left (t₁ && t₂) t₃ e₃ in
    record {
      block = record {
        some = some;
        short = leb-true s 4096 (and_left t₁ t₂ e₂);
        wide = leb-true (x * q + q) s (and_right t₁ t₂ e₂);
        within = leb-true ((y * q + (q - 1)) * s + (x * q + q)) len (and_right (t₁ && t₂) t₃ e₃);
      };
      beside = record {
        on_above = λ h. ltb-true 0 y (implied (marks B) (ltb 0 y) (and_right (t₁ && t₂ && t₃ && ta) tb e₅) h);
        on_left = λ h. ltb-true 0 x (implied (marks A) (ltb 0 x) (and_right (t₁ && t₂ && t₃) ta e₄) h);
        on_corner = λ h.
            let f = and_both (ltb 0 x) (ltb 0 y) (implied (marks D) _ (and_right (t₁ && t₂ && t₃ && ta && tb && tc) td e) h) in
            (ltb-true 0 y f.1, ltb-true 0 x f.0);
        on_above_right = λ h.
            let f = and_both (ltb 0 y) (leb (x * q + q + q) s) (implied (marks C) _ (and_right (t₁ && t₂ && t₃ && ta && tb) tc e₆) h) in
            (ltb-true 0 y f.0, leb-true (x * q + q + q) s f.1);
      };
    }

-- and the squares of the three planes
module _ (x y luma_len cb_len cr_len : ℕ) (s : Strides) (marks : Side → Bool) where
  pub record AllStand : Type 0 where
    pub luma : StandsIn 16 (place_at s.luma y x) luma_len (square_sides marks)
    pub cb : StandsIn 8 (place_at s.cb y x) cb_len (square_sides marks)
    pub cr : StandsIn 8 (place_at s.cr y x) cr_len (square_sides marks)

  pub all_stand : rooms x y luma_len cb_len cr_len s marks ≡ true → AllStand
  all_stand e =
      let t₁ = room 16 luma_len s.luma x y marks in let t₂ = room 8 cb_len s.cb x y marks in let t₃ = room 8 cr_len s.cr x y marks in
      let f = and_left (t₁ && t₂) t₃ e in
      record {
        luma = room_stands 16 luma_len s.luma x y marks (omega arith) (and_left t₁ t₂ f);
        cb = room_stands 8 cb_len s.cb x y marks (omega arith) (and_right t₁ t₂ f);
        cr = room_stands 8 cr_len s.cr x y marks (omega arith) (and_right (t₁ && t₂) t₃ e);
      }
