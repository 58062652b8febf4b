-- A block holds a call's samples by plane, column and row, and is known by them; put back where they were cut out, they are the call's squares.
-- Assumes nothing.
use mathlib.Core.Path.{◌≡◌, refl, sym, ap, ap₂, ◌∙◌}
use mathlib.Core.Bool.{Bool, true, false, cond}
use mathlib.Core.List.{List, ◌++◌}
use Prim.Native.Nat.{ℕ, ◌+◌, ◌*◌, ◌-◌, ◌/◌, ◌%◌, ◌<◌}
use native.Mathlib.Decide.{dec_lt}
use native.Mathlib.Nat.{zero-add, mod-lt, div-lt_iff_lt-mul, div-add-mod'}
use native.Mathlib.Omega.{arith}
use lib.Arith.{digits_div, digits_mod, digits_lt}
use lib.Dec.{T}
use lib.ListN.{get_or, length, length-append, get_or-append}
use lib.Seq.{ext_get_or, get_or-append-add}
use Rattle.laws.specs.Table.{block_of}
use Rattle.laws.proofs.Digits.{placed}
use Rattle.laws.proofs.Patches.{patch_is}
use Rattle.laws.proofs.Tables.{length_table, get_d_table}
use Rattle.laws.proofs.Tests.{true_t, T_true, not_both}
use Rattle.maps.specs.Size.{Stands}
use Rattle.macroblock.specs.Local.{Local}
use Rattle.macroblock.specs.Square.{in_block}
use Rattle.macroblock.proofs.Places.{block_of_lem, place_is}
use Rattle.calls.specs.Planes.{Plane, side}
use Rattle.calls.specs.Planes.Plane.{luma, cb, cr}
use Rattle.calls.specs.Rebuild.{Call, marks, square_in}
use Rattle.calls.specs.Run.{Planes}
use Rattle.calls.proofs.Lending.{PlaneRoom}
use Rattle.calls.proofs.Squares.{square_local, square_wide, side_pos}
use Rattle.halves.specs.Halves.{start_of, sample_of, block_by, sample_left, samples_of, put_in}

-- ---- a block by its samples
module _ (f : Plane → ℕ → ℕ → ℕ) where
  abbrev piece : Plane → List ℕ
  piece p = block_of (side p) (f p)

  piece_long : (p : Plane) → length (piece p) ≡ side p * side p
  piece_long p = length_table 0 (side p * side p) _

  pub block_long : length (block_by f) ≡ 384
  block_long =
      let e₁ : length (piece luma) ≡ 256 = piece_long luma in
      let e₂ : length (piece cb) ≡ 64 = piece_long cb in
      let e₃ : length (piece cr) ≡ 64 = piece_long cr in
      length-append (piece luma) (piece cb ++ piece cr) ∙ omega (arith, length-append (piece cb) (piece cr))

  piece_at : (p : Plane) (k : ℕ) → k < side p * side p → get_or (block_by f) (start_of p + k) 0 ≡ get_or (piece p) k 0
  piece_at luma k h = ap (λ n. get_or (block_by f) n 0) (zero-add k) ∙ get_or-append (piece luma) (piece cb ++ piece cr) 0 k (rw (piece_long luma) h)
  piece_at cb k h =
      let e₁ : length (piece luma) ≡ 256 = piece_long luma in
      ap (λ n. get_or (block_by f) n 0) (omega arith)
      ∙ get_or-append-add (piece luma) (piece cb ++ piece cr) k 0
      ∙ get_or-append (piece cb) (piece cr) 0 k (rw (piece_long cb) h)
  piece_at cr k h =
      let e₁ : length (piece luma) ≡ 256 = piece_long luma in
      let e₂ : length (piece cb) ≡ 64 = piece_long cb in
      ap (λ n. get_or (block_by f) n 0) (omega arith)
      ∙ get_or-append-add (piece luma) (piece cb ++ piece cr) (length (piece cb) + k) 0
      ∙ get_or-append-add (piece cb) (piece cr) k 0

  pub block_at_lem : (p : Plane) (i j : ℕ) → i < side p → j < side p → sample_of (block_by f) p i j ≡ f p i j
  block_at_lem p i j hi hj =
      let q = side p in
      piece_at p (j * q + i) (digits_lt hj hi) ∙ get_d_table 0 (q * q) _ (j * q + i) (digits_lt hj hi) ∙ ap₂ (f p) (digits_mod j hi) (digits_div j hi)

-- ---- a block is known by its samples
pub same_block : (u v : List ℕ) → length u ≡ 384 → length v ≡ 384
    → ((p : Plane) (i j : ℕ) → i < side p → j < side p → sample_of u p i j ≡ sample_of v p i j) → u ≡ v
same_block u v m n e = ext_get_or 0 u v (m ∙ sym n) (λ k h. go k (omega arith) (dec_lt k 256) (dec_lt k 320))
  where
    at : (p : Plane) (k l : ℕ) → l < side p * side p → k ≡ start_of p + l → get_or u k 0 ≡ get_or v k 0
    at p k l h is =
        let q = side p in
        let there : k ≡ start_of p + (l / q * q + l % q) = is ∙ ap (λ r. start_of p + r) (sym (div-add-mod' l q)) in
        ap (λ r. get_or u r 0) there
        ∙ e p (l % q) (l / q) (mod-lt l (side_pos p)) ((div-lt_iff_lt-mul (side_pos p)).1 h)
        ∙ sym (ap (λ r. get_or v r 0) there)

    go : (k : ℕ) → k < 384 → Dec (k < 256) → Dec (k < 320) → get_or u k 0 ≡ get_or v k 0
    go k h (yes y) z = at luma k k y (omega arith)
    go k h (no y) (yes z) = at cb k (k - 256) (omega arith) (omega arith)
    go k h (no y) (no z) = at cr k (k - 320) (omega arith) (omega arith)

-- a list of 384 that shows them is that block
pub block_is : (f : Plane → ℕ → ℕ → ℕ) (u : List ℕ) → length u ≡ 384 → ((p : Plane) (i j : ℕ) → i < side p → j < side p → sample_of u p i j ≡ f p i j) → u ≡ block_by f
block_is f u long e = same_block u (block_by f) long (block_long f) (λ p i j hi hj. e p i j hi hj ∙ sym (block_at_lem f p i j hi hj))

-- ---- a call's samples
module _ (c : Call) (planes : Planes) where
  pub samples_long : length (samples_of c planes) ≡ 384
  unfolding samples_of
  samples_long = block_long (sample_left c planes)

  pub samples_at : (p : Plane) (i j : ℕ) → i < side p → j < side p → sample_of (samples_of c planes) p i j ≡ sample_left c planes p i j
  unfolding samples_of
  samples_at = block_at_lem (sample_left c planes)

-- ---- a call whose macroblock lies in the planes
module _ (c : Call) (planes : Planes) (fits : (p : Plane) → PlaneRoom (side p) c.width c.height (c.stride p) (length (planes p)))
    (place : Stands c.width c.height c.x c.y) where
  -- planes in which it leaves the same give the same samples
  pub samples_alike : (other : Planes)
      → ((p : Plane) (i : ℕ) → T (in_block (side p) (c.stride p) c.y c.x i) → get_or (square_in c p (planes p)) i 0 ≡ get_or (square_in c p (other p)) i 0)
      → samples_of c planes ≡ samples_of c other
  samples_alike other e =
      same_block (samples_of c planes) (samples_of c other) (samples_long c planes) (samples_long c other) (λ p i j hi hj.
      let q = side p in
      let n = (c.y * q + j) * c.stride p + (c.x * q + i) in
      let wide = square_wide q c.width c.height (c.stride p) (length (planes p)) c.x c.y (side_pos p) (fits p) place in
      let t = placed q (c.stride p) c.y c.x j i n hj hi wide refl in
      samples_at c planes p i j hi hj
      ∙ e p n (block_of_lem q (c.stride p) c.y c.x n t.Y_is t.Z_is)
      ∙ sym (samples_at c other p i j hi hj))

  -- the samples put into a plane are the square
  pub put_back : (p : Plane) → put_in c (samples_of c planes) p (planes p) ≡ square_in c p (planes p)
  put_back p =
      sym (patch_is (in_block q st c.y c.x) _ (planes p) (square_in c p (planes p)) (local.keeps (planes p))
      (λ i h. go i (in_block q st c.y c.x i) refl))
    where
      q : ℕ
      q = side p

      st : ℕ
      st = c.stride p

      local : Local (length (planes p)) q st c.x c.y (marks c) (square_in c p)
      local = square_local c (λ q. length (planes q)) fits place p

      go : (i : ℕ) (b : Bool) → in_block q st c.y c.x i ≡ b
          → get_or (square_in c p (planes p)) i 0 ≡ cond b (sample_of (samples_of c planes) p (i % st % q) (i / st % q)) (get_or (planes p) i 0)
      go i true t =
          ap (λ n. get_or (square_in c p (planes p)) n 0) (place_is q st c.y c.x i (true_t (in_block q st c.y c.x i) t))
          ∙ sym (samples_at c planes p (i % st % q) (i / st % q) (mod-lt (i % st) (side_pos p)) (mod-lt (i / st) (side_pos p)))
      go i false f = local.writes (planes p) i refl (λ t. not_both (T_true (in_block q st c.y c.x i) t) f)
