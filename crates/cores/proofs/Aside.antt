-- A macroblock rebuilt in small planes that show the same around it, and cut out, is the macroblock's block. Assumes nothing.
use mathlib.Core.Path.{◌≡◌, refl, sym, ap, subst, ◌∙◌}
use mathlib.Core.Bool.{Bool, true, ◌&&◌}
use mathlib.Core.List.{List}
use Prim.Native.Nat.{ℕ, ◌+◌, ◌*◌, ◌-◌, ◌<◌, ◌≤◌}
use native.Mathlib.Omega.{arith}
use borrow.Author.Tests.{le-leb}
use lib.ListN.{get_or, length}
use Rattle.laws.proofs.Tests.{and_left, and_right, and_of, implied_of}
use Rattle.maps.specs.Neighbours.{Side}
use Rattle.maps.specs.Neighbours.Side.{A, B, C, D}
use Rattle.macroblock.specs.Kinds.{luma_square, cb_square, cr_square}
use Rattle.macroblock.specs.Rules.{room, rooms, rebuild_answer}
use Rattle.macroblock.specs.declared.Record.{Record}
use Rattle.macroblock.specs.declared.Strides.{Strides}
use Rattle.moved.specs.Moved.{Site, SameAround, HasRoom}
use Rattle.moved.proofs.Moved.{moved}
use Rattle.calls.specs.Planes.{Plane, three, side}
use Rattle.calls.specs.Planes.Plane.{luma, cb, cr}
use Rattle.halves.specs.Halves.{sample_of}
use Rattle.halves.proofs.Samples.{block_is}
use Rattle.cores.specs.inner.Aside.{small_site, block_at}
use Rattle.cores.specs.inner.Rects.{put_rect}
use Rattle.cores.proofs.Rects.{rect_at, rect_other, rect_length}

-- ---- there is room at (1, 1) of a small plane, whatever is marked
small_room : (q n s : ℕ) (m : Side → Bool) → s ≤ 4096 → q + q + q ≤ s → (1 * q + (q - 1)) * s + (1 * q + q) ≤ n → room q n s 1 1 m ≡ true
unfolding room
small_room q n s m most wide long =
    and_of (and_of (and_of (and_of (and_of (and_of
    (le-leb s 4096 most)
    (le-leb (1 * q + q) s (omega arith)))
    (le-leb ((1 * q + (q - 1)) * s + (1 * q + q)) n long))
    (implied_of (m A) _ (λ t. refl)))
    (implied_of (m B) _ (λ t. refl)))
    (implied_of (m C) _ (λ t. le-leb (1 * q + q + q) s (omega arith))))
    (implied_of (m D) _ (λ t. refl))

pub small_luma : (m : Side → Bool) → room 16 1536 48 1 1 m ≡ true
small_luma m = small_room 16 1536 48 m (omega arith) (omega arith) (omega arith)

pub small_chroma : (m : Side → Bool) → room 8 384 24 1 1 m ≡ true
small_chroma m = small_room 8 384 24 m (omega arith) (omega arith) (omega arith)

abbrev pub small_strides : Strides
small_strides = record { luma = 48; cb = 24; cr = 24 }

pub small_rooms : (l b r : ℕ) (m : Side → Bool) → l ≡ 1536 → b ≡ 384 → r ≡ 384 → rooms 1 1 l b r small_strides m ≡ true
small_rooms l b r m e f g = rw (e, f, g) (and_of (and_of (small_luma m) (small_chroma m)) (small_chroma m))

pub there_is_room : {l b r : ℕ} (m : Side → Bool) (ready : Bool) (mb : Record) → l ≡ 1536 → b ≡ 384 → r ≡ 384
    → rebuild_answer (rooms 1 1 l b r small_strides m) m ready mb ≡ rebuild_answer true m ready mb
there_is_room m ready mb e f g = ap (λ t. rebuild_answer t m ready mb) (small_rooms _ _ _ m e f g)

-- ---- plane by plane
pub each : (P : Plane → Type 0) → P luma → P cb → P cr → (p : Plane) → P p
each P l b r luma = l
each P l b r cb = b
each P l b r cr = r

-- ---- three squares put into a block of 384, one after the other
module _ (u : Plane → ℕ → ℕ → ℕ) (b₀ b₁ b₂ b₃ : List ℕ) (long : length b₀ ≡ 384)
    (e₁ : b₁ ≡ put_rect 16 16 0 16 (u luma) b₀) (e₂ : b₂ ≡ put_rect 8 8 256 8 (u cb) b₁) (e₃ : b₃ ≡ put_rect 8 8 320 8 (u cr) b₂) where
  long₁ : length b₁ ≡ 384
  long₁ = ap length e₁ ∙ rect_length 16 16 0 16 (u luma) b₀ ∙ long

  long₂ : length b₂ ≡ 384
  long₂ = ap length e₂ ∙ rect_length 8 8 256 8 (u cb) b₁ ∙ long₁

  pub block_kept : length b₃ ≡ 384
  block_kept = ap length e₃ ∙ rect_length 8 8 320 8 (u cr) b₂ ∙ long₂

  -- what stands below the last square, and below the second
  below₃ : (n : ℕ) → n < 320 → get_or b₃ n 0 ≡ get_or b₂ n 0
  below₃ n h = ap (λ l. get_or l n 0) e₃ ∙ rect_other 8 8 320 8 (u cr) b₂ n (λ i j hi hj e. omega arith)

  below₂ : (n : ℕ) → n < 256 → get_or b₂ n 0 ≡ get_or b₁ n 0
  below₂ n h = ap (λ l. get_or l n 0) e₂ ∙ rect_other 8 8 256 8 (u cb) b₁ n (λ i j hi hj e. omega arith)

  pub shows : (p : Plane) (i j : ℕ) → i < side p → j < side p → sample_of b₃ p i j ≡ u p i j
  shows luma i j hi hj =
      let n = 0 + j * 16 + i in
      ap (λ k. get_or b₃ k 0) (omega arith) ∙ below₃ n (omega arith) ∙ below₂ n (omega arith) ∙ ap (λ l. get_or l n 0) e₁
      ∙ rect_at 16 16 0 16 (u luma) b₀ i j (omega arith) hi hj (omega arith)
  shows cb i j hi hj =
      let n = 256 + j * 8 + i in
      ap (λ k. get_or b₃ k 0) (omega arith) ∙ below₃ n (omega arith) ∙ ap (λ l. get_or l n 0) e₂
      ∙ rect_at 8 8 256 8 (u cb) b₁ i j (omega arith) hi hj (omega (arith, long₁))
  shows cr i j hi hj =
      let n = 320 + j * 8 + i in
      ap (λ k. get_or b₃ k 0) (omega arith) ∙ ap (λ l. get_or l n 0) e₃ ∙ rect_at 8 8 320 8 (u cr) b₂ i j (omega arith) hi hj (omega (arith, long₂))

-- ---- a macroblock and its small planes
module _ (s : Strides) (x y : ℕ) (marks : Side → Bool) (planes : Plane → List ℕ)
    (ok : rooms x y (length (planes luma)) (length (planes cb)) (length (planes cr)) s marks ≡ true) where
  abbrev stride : Plane → ℕ
  stride = three s.luma s.cb s.cr

  abbrev here : Plane → Site
  here p = record { stride = stride p; x = x; y = y; plane = planes p }

  abbrev fits : Plane → Bool
  fits p = room (side p) (length (planes p)) (stride p) x y marks

  pub room_here : (p : Plane) → HasRoom (side p) marks (here p)
  room_here luma = and_left (fits luma) (fits cb) (and_left (fits luma && fits cb) (fits cr) ok)
  room_here cb = and_right (fits luma) (fits cb) (and_left (fits luma && fits cb) (fits cr) ok)
  room_here cr = and_right (fits luma && fits cb) (fits cr) ok

  module _ (mb : Record) (small : Plane → List ℕ) (long : (p : Plane) → length (small p) ≡ 2 * side p * (3 * side p))
      (same : (p : Plane) → SameAround (side p) marks (here p) (small_site (side p) (small p))) where
    abbrev there : Plane → Site
    there p = small_site (side p) (small p)

    -- what the macroblock call leaves
    abbrev left : (x y : ℕ) → (Plane → ℕ) → (Plane → List ℕ) → Plane → List ℕ
    left x y s l = three (luma_square x y marks mb (s luma) (l luma)) (cb_square x y marks mb (s cb) (l cb)) (cr_square x y marks mb (s cr) (l cr))

    room_there : (p : Plane) → HasRoom (side p) marks (there p)
    room_there luma = subst (λ n. room 16 n 48 1 1 marks ≡ true) (sym (long luma)) (small_luma marks)
    room_there cb = subst (λ n. room 8 n 24 1 1 marks ≡ true) (sym (long cb)) (small_chroma marks)
    room_there cr = subst (λ n. room 8 n 24 1 1 marks ≡ true) (sym (long cr)) (small_chroma marks)

    -- the square that is left there, by place in the small plane, is the one that is left here
    alike : (p : Plane) (i j : ℕ) → i < side p → j < side p
        → get_or (left 1 1 (λ q. 3 * side q) small p) ((1 * side p + j) * (3 * side p) + (1 * side p + i)) 0
        ≡ get_or (left x y stride planes p) ((y * side p + j) * stride p + (x * side p + i)) 0
    alike luma i j hi hj = sym ((moved marks mb).luma (here luma) (there luma) (room_here luma) (room_there luma) (same luma) i j hi hj)
    alike cb i j hi hj = sym ((moved marks mb).cb (here cb) (there cb) (room_here cb) (room_there cb) (same cb) i j hi hj)
    alike cr i j hi hj = sym ((moved marks mb).cr (here cr) (there cr) (room_here cr) (room_there cr) (same cr) i j hi hj)

    -- where a square begins in its small plane
    abbrev begins : Plane → ℕ
    begins = three 784 200 200

    abbrev cut : (Plane → List ℕ) → Plane → ℕ → ℕ → ℕ
    cut now p i j = get_or (now p) (begins p + j * (3 * side p) + i) 0

    cut_is : (p : Plane) (i j : ℕ) → begins p + j * (3 * side p) + i ≡ (1 * side p + j) * (3 * side p) + (1 * side p + i)
    cut_is luma i j = omega arith
    cut_is cb i j = omega arith
    cut_is cr i j = omega arith

    pub cut_out : (now : Plane → List ℕ) → ((p : Plane) → now p ≡ left 1 1 (λ q. 3 * side q) small p)
        → (b₀ b₁ b₂ b₃ : List ℕ) → length b₀ ≡ 384
        → b₁ ≡ put_rect 16 16 0 16 (cut now luma) b₀ → b₂ ≡ put_rect 8 8 256 8 (cut now cb) b₁ → b₃ ≡ put_rect 8 8 320 8 (cut now cr) b₂
        → b₃ ≡ block_at s x y marks mb (planes luma) (planes cb) (planes cr)
    cut_out now e b₀ b₁ b₂ b₃ l e₁ e₂ e₃ =
        block_is _ b₃ (block_kept (cut now) b₀ b₁ b₂ b₃ l e₁ e₂ e₃) (λ p i j hi hj.
        shows (cut now) b₀ b₁ b₂ b₃ l e₁ e₂ e₃ p i j hi hj ∙ ap (λ n. get_or (now p) n 0) (cut_is p i j)
        ∙ ap (λ m. get_or m ((1 * side p + j) * (3 * side p) + (1 * side p + i)) 0) (e p) ∙ alike p i j hi hj)

    -- the same, with each small plane given by the rectangle that is cut out of it
    pub cut_of : {l b r : List ℕ} (b₀ b₁ b₂ b₃ : List ℕ) → length b₀ ≡ 384
        → b₁ ≡ put_rect 16 16 0 16 (λ i j. get_or l (784 + j * 48 + i) 0) b₀ → b₂ ≡ put_rect 8 8 256 8 (λ i j. get_or b (200 + j * 24 + i) 0) b₁
        → b₃ ≡ put_rect 8 8 320 8 (λ i j. get_or r (200 + j * 24 + i) 0) b₂
        → l ≡ left 1 1 (λ q. 3 * side q) small luma → b ≡ left 1 1 (λ q. 3 * side q) small cb → r ≡ left 1 1 (λ q. 3 * side q) small cr
        → b₃ ≡ block_at s x y marks mb (planes luma) (planes cb) (planes cr)
    cut_of {l} {b} {r} b₀ b₁ b₂ b₃ k e₁ e₂ e₃ f g h = cut_out (three l b r) (each _ f g h) b₀ b₁ b₂ b₃ k e₁ e₂ e₃
