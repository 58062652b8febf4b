-- A block that a call puts by its offset is the one that the definition puts by its coordinates, and its residuals are the definition's.
-- Assumes nothing.
use mathlib.Core.Path.{◌≡◌, ap, ◌∙◌}
use mathlib.Core.List.{List}
use Prim.Native.Nat.{ℕ, ◌+◌, ◌*◌, ◌-◌, ◌/◌, ◌%◌, ◌<◌, ◌≤◌}
use native.Mathlib.Nat.{add-mul}
use native.Mathlib.Omega.{arith}
use borrow.Rule.Slice.PartMut.{mid_of}
use lib.IntN.{ℤ, pos, ◌+ℤ◌}
use lib.ListN.{get_or}
use Rattle.laws.specs.Range.{at}
use Rattle.laws.proofs.Stretches.{part_at}
use Rattle.basics.specs.Clip.{Clip1}
use Rattle.basics.specs.Nnz.{blk_idx}
use Rattle.macroblock.specs.declared.place.Place.{Place}
use Rattle.cut.specs.inner.Blocks.{Scan}
use Rattle.macroblock.specs.Kinds.{residual_in}
use Rattle.macroblock.specs.Square.{put_block}
use Rattle.macroblock.specs.inner.Blocks.{BlockIn, RoomIn, Transformed, sum_over, in_pieces, quad_place}
use Rattle.macroblock.proofs.Pieces.{put_same}

-- the block has room, by its first sample
pub room_at : {q n : ℕ} {p : Place} → BlockIn q p n → RoomIn q (p.row * q * p.stride + p.column * q) p.stride n
room_at {q} {n} {p} F = record { inside = omega (arith, F.within, add-mul (p.row * q) (q - 1) p.stride) }

-- the sums that a call puts, for residuals that are the same in the block
pub put_sums : (q po ps : ℕ) (place : Place) (pred p : List ℕ) (ρ σ : ℕ → ℕ → ℤ) {p' : List ℕ} → 0 < q
    → p' ≡ put_block q place (sum_over pred po ps ρ) p → ((x y : ℕ) → x < q → y < q → ρ x y ≡ σ x y) → p' ≡ put_block q place (sum_over pred po ps σ) p
put_sums q po ps place pred p ρ σ some e same =
    e ∙ put_same q place (sum_over pred po ps ρ) (sum_over pred po ps σ) p some (λ x y hx hy. ap (λ z. Clip1 (pos (get_or pred (po + y * ps + x) 0) +ℤ z)) (same x y hx hy))

-- block k of a list of residuals, n to a block
pub block_at_lem : (n k i : ℕ) (l : List ℤ) → i < n → at (mid_of (n * k) (n * k + n - n * k) l) i ≡ at l (n * k + i)
block_at_lem n k i l h = part_at (pos 0) l (n * k) (n * k + n - n * k) i (omega arith)

-- ---- an 8x8 square that a call puts from the 64 residuals of its four pieces, and one whose residuals are all 0
-- the number of a piece, by its column and row
number : (u v : ℕ) → u < 2 → v < 2 → v * 2 + u ≡ blk_idx u v
number u v hu hv = omega arith

pub quad_inside : (x y : ℕ) → x < 8 → y < 8 → quad_place x y < 64
unfolding quad_place
quad_inside x y hx hy = omega arith

-- those of row y: four, and four of the next piece
pub quad_row : (x y : ℕ) → x < 4 → y / 4 * 32 + y % 4 * 4 + x ≡ quad_place x y
unfolding quad_place
quad_row x y h = omega arith

pub quad_next : (x y : ℕ) → x < 4 → y / 4 * 32 + y % 4 * 4 + (16 + x) ≡ quad_place (4 + x) y
unfolding quad_place
quad_next x y h = omega arith

-- the residuals of quad n
pub quad_at : (residuals : List ℤ) (n x y : ℕ) → x < 8 → y < 8 → at residuals (64 * n + quad_place x y) ≡ in_pieces residuals (4 * n) x y
unfolding quad_place
quad_at residuals n x y hx hy =
    let e : 64 * n + quad_place x y ≡ 16 * (4 * n + (y / 4 * 2 + x / 4)) + (4 * (y % 4) + x % 4) = omega arith in
    ap (at residuals) e ∙ ap (λ b. at residuals (16 * (4 * n + b) + (4 * (y % 4) + x % 4))) (number (x / 4) (y / 4) (omega arith) (omega arith))

-- the residuals of a block whose pieces are all transformed
pub pieces_transformed : {first : ℕ} {numbers residuals : List ℤ} (m base : ℕ) → Scan m → first ≤ base → base + m * m ≤ 24 → Transformed first numbers residuals
    → (x y : ℕ) → x < 4 * m → y < 4 * m → in_pieces residuals base x y ≡ residual_in numbers base x y
pieces_transformed m base S low high T x y hx hy =
    T.after (base + blk_idx (x / 4) (y / 4)) (x % 4) (y % 4) (omega arith) (omega (arith, S.of_lt (x / 4) (y / 4) (omega arith) (omega arith))) (omega arith) (omega arith)
