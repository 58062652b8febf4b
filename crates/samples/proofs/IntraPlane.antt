-- Reading round a block in a plane: what the room for it means, and that the samples read are those of its neighbourhood. Assumes nothing.
use mathlib.Core.Path.{◌≡◌, refl, sym, ap}
use mathlib.Core.Bool.{Bool, true, false, ◌&&◌, and-false}
use mathlib.Core.List.{List}
use Prim.Native.Nat.{ℕ, ◌+◌, ◌-◌, ◌*◌, ◌≤◌, ◌<◌}
use native.Mathlib.Nat.{mul-le-mul, mul-le-mul_right, le_refl, zero-mul, suc-mul}
use native.Mathlib.Numerals.{add-one}
use native.Mathlib.Omega.{arith}
use borrow.Author.Tests.{ltb-true, leb-true, leb-false, le-leb, lt-leb}
use lib.Dec.{ltb, leb}
use lib.ListN.{length, get_or}
use Rattle.laws.proofs.Tests.{not_both, and_both}
use Rattle.basics.specs.Near.{Near, near_in}
use Rattle.samples.specs.IntraPlane.{room_round}
use Rattle.samples.specs.inner.Surroundings.{Surroundings}

module _ (n len base stride : ℕ) where
  pub room_yes : room_round n len base stride ≡ true → Surroundings n len base stride
  unfolding room_round
  room_yes h =
      let a = ltb 0 stride in
      let b = leb stride 4096 in
      let c = ltb stride base in
      let d = leb (base + n) (len + stride) in
      let h₄ = and_both (a && b && c && d) (leb (base + (n - 1) * stride) len) h in
      let h₃ = and_both (a && b && c) d h₄.0 in
      let h₂ = and_both (a && b) c h₃.0 in
      let h₁ = and_both a b h₂.0 in
      record { some = ltb-true _ _ h₁.0; most = leb-true _ _ h₁.1; corner = ltb-true _ _ h₂.1; row = leb-true _ _ h₃.1; column = leb-true _ _ h₄.1 }

  abbrev pub Starts : Bool → Type 0
  Starts t = ltb 0 stride && leb stride 4096 && ltb stride base && leb base len ≡ t

  -- the last of the left column lies in the buffer, and so does the row above
  pub room_last : 1 ≤ n → Starts true → leb ((n - 1) * stride) (len - base) ≡ room_round n len base stride
  unfolding room_round
  room_last hn h =
      let h₃ = and_both (ltb 0 stride && leb stride 4096 && ltb stride base) (leb base len) h in
      rw h₃.0 (go (ltb-true _ _ (and_both (ltb 0 stride) (leb stride 4096) (and_both (ltb 0 stride && leb stride 4096) (ltb stride base) h₃.0).0).0) (leb-true _ _ h₃.1)
      (leb ((n - 1) * stride) (len - base)) refl)
    where
      go : 0 < stride → base ≤ len → (t : Bool) → leb ((n - 1) * stride) (len - base) ≡ t → t ≡ leb (base + n) (len + stride) && leb (base + (n - 1) * stride) len
      go hs hb true e =
          let h : (n - 1) * stride ≤ len - base = leb-true _ _ e in
          let g : (n - 1) * 1 ≤ (n - 1) * stride = mul-le-mul (le_refl (n - 1)) hs in
          rw (le-leb (base + n) (len + stride) (omega arith), le-leb (base + (n - 1) * stride) len (omega arith))
      go hs hb false e =
          let h : len - base < (n - 1) * stride = leb-false _ _ e in
          rw (lt-leb (base + (n - 1) * stride) len (omega arith)) (sym (and-false (leb (base + n) (len + stride))))

  pub room_no : Starts false → room_round n len base stride ≡ false
  unfolding room_round
  room_no h = go (ltb 0 stride && leb stride 4096 && ltb stride base) (leb base len) refl h
    where
      go : (t d : Bool) → leb base len ≡ d → t && d ≡ false → t && leb (base + n) (len + stride) && leb (base + (n - 1) * stride) len ≡ false
      go true true e h = absurd (not_both refl h)
      go true false e h = rw (lt-leb (base + (n - 1) * stride) len (omega (arith, leb-false _ _ e))) (and-false (leb (base + n) (len + stride)))
      go false d e h = refl

-- the samples beside the block as they are read are the plane's
module _ (n base stride : ℕ) (rec : List ℕ) (room : Surroundings n (length rec) base stride) where
  abbrev nearby : Near
  nearby = near_in rec (base - stride - 1) stride

  pub row_lies : (i : ℕ) → i < n → base - stride + i * 1 < length rec
  row_lies i h = omega (arith, room.row, room.corner)

  pub column_lies : (i : ℕ) → i < n → base - 1 + i * stride < length rec
  column_lies i h =
      let last : i ≤ n - 1 = omega arith in
      let least : i * stride ≤ (n - 1) * stride = mul-le-mul_right stride last in
      omega (arith, room.corner, room.column)

  pub above_at : (x : ℕ) → get_or rec (base - stride + x * 1) 0 ≡ nearby (x + 1) 0
  unfolding near_in
  above_at x = ap (λ (k : ℕ). get_or rec k 0) (omega (arith, zero-mul stride, room.corner))

  pub left_at : (y : ℕ) → get_or rec (base - 1 + y * stride) 0 ≡ nearby 0 (y + 1)
  unfolding near_in
  left_at y = ap (λ (k : ℕ). get_or rec k 0) (rw (add-one y) (omega (arith, suc-mul y stride, room.corner)))
