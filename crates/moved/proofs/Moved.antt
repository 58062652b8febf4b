-- A square is rebuilt alike elsewhere: block by block, what lies beside a block is an earlier block or touches the square, and is the same at both places.
-- For every cut and every rule. Assumes nothing.
use mathlib.Core.Path.{◌≡◌, sym, ap, ap₂, ◌∙◌}
use mathlib.Core.Bool.{Bool}
use mathlib.Core.List.{List}
use Prim.Native.Nat.{ℕ, zero, suc, ◌+◌, ◌*◌, ◌-◌, ◌/◌, ◌%◌, ◌<◌, ◌≤◌}
use native.Mathlib.Nat.{le_refl, mod-lt, div-add-mod', add-mul, not-suc-le-zero, le_of_suc-le}
use native.Mathlib.Decide.{ℕ_discrete}
use native.Mathlib.Omega.{arith}
use lib.Dec.{T}
use lib.ListN.{get_or, length}
use Rattle.laws.specs.Steps.{up_to}
use Rattle.basics.specs.Nnz.{blk_idx}
use Rattle.maps.specs.Neighbours.{Side}
use Rattle.maps.specs.Neighbours.Side.{A, B, C, D}
use Rattle.cut.specs.Cut.{Cut, four, eight, whole, cut_for, scan_x, scan_y, holder_at, next_x, next_y, held_by, is_there, sides_of, square_sides}
use Rattle.cut.specs.inner.Blocks.{Scan}
use Rattle.cut.proofs.Holders.{by_holder}
use Rattle.cut.proofs.Scan.{scan_1, scan_2, scan_4}
use Rattle.macroblock.specs.Kinds.{luma_rule, chroma_rule}
use Rattle.macroblock.specs.Square.{place_at, Rule, part_place, part_near, all_parts}
use Rattle.macroblock.specs.declared.Record.{Record}
use Rattle.macroblock.specs.inner.Blocks.{StandsIn}
use Rattle.macroblock.proofs.Held.{row_at, column_at}
use Rattle.macroblock.proofs.Neighbourhood.{near_same}
use Rattle.macroblock.proofs.Rooms.{room_stands}
use Rattle.moved.specs.Moved.{Site, SameAround, HasRoom, SameLeft, Moved}
use Rattle.moved.proofs.Framed.{column_in, row_in, line, whole_mul, row_line, column_line, first_line, inner_line, block_line, next_line, line_in, line_of, with_first, touch_kept, index_of, other_put, own_put}

abbrev Stands : ℕ → (Side → Bool) → Site → Type 0
Stands q marks u = StandsIn q (place_at u.stride u.y u.x) (length u.plane) (square_sides marks)

-- ---- a macroblock at two places
module _ (c : Cut) (rule : Rule) (marks : Side → Bool) (S : Scan c.across) (some : 0 < c.side) (reach : c.wide ≤ 2 * c.side) (u v : Site)
    (at-u : Stands (c.side * c.across) marks u) (at-v : Stands (c.side * c.across) marks v) (same : SameAround (c.side * c.across) marks u v) where
  abbrev q : ℕ
  q = c.side

  abbrev m : ℕ
  m = c.across

  abbrev w : ℕ
  w = c.side * c.across

  -- the two planes with their first k blocks put
  abbrev one : ℕ → List ℕ
  one k = with_first c rule marks S some reach u at-u k

  abbrev two : ℕ → List ℕ
  two k = with_first c rule marks S some reach v at-v k

  -- a sample of both, by where its row and its column are from each place
  abbrev Shows : ℕ → (Site → ℕ) → (Site → ℕ) → Type 0
  Shows k row column = get_or (one k) (row u * u.stride + column u) 0 ≡ get_or (two k) (row v * v.stride + column v) 0

  -- the same sample by other words
  reworded : (k : ℕ) {row row' column column' : Site → ℕ} → ((a : Site) → row a ≡ row' a) → ((a : Site) → column a ≡ column' a) → Shows k row' column' → Shows k row column
  reworded k e f h =
      ap₂ (λ r n. get_or (one k) (r * u.stride + n) 0) (e u) (f u) ∙ h ∙ sym (ap₂ (λ r n. get_or (two k) (r * v.stride + n) 0) (e v) (f v))

  -- the first k blocks are alike
  abbrev BlocksAlike : ℕ → Type 0
  BlocksAlike k = (n r e : ℕ) → n < k → r < q → e < q → Shows k (λ a. (a.y * m + scan_y n) * q + r) (λ a. (a.x * m + scan_x n) * q + e)

  touches : (k : ℕ) → k ≤ m * m → (d : Side) (t : ℕ) → t < w → T (marks d) → Shows k (λ a. row_at w a.y d t) (λ a. column_at w a.x d t)
  touches k h d t ht o = touch_kept c rule marks S some reach u at-u k h d t ht o ∙ same d o t ht ∙ sym (touch_kept c rule marks S some reach v at-v k h d t ht o)

  -- ---- the samples beside block k
  module _ (k : ℕ) (hk : k < m * m) (alike : BlocksAlike k) where
    -- column e and row r of block column i and block row j, counted from one before the square
    module _ (i j e r : ℕ) (hi : i ≤ m + 1) (hj : j ≤ m) (he : e < q) (hr : r < q) (last-e : i ≡ 0 → suc e ≡ q) (last-r : j ≡ 0 → suc r ≡ q) where
      abbrev Known : Type 0
      Known = Shows k (λ a. line q m a.y j r) (λ a. line q m a.x i e)

      beyond : (d : Side) (t : ℕ) → t < w → T (marks d) → ((a : Site) → line q m a.y j r ≡ row_at w a.y d t) → ((a : Site) → line q m a.x i e ≡ column_at w a.x d t) → Known
      beyond d t ht o row column = reworded k row column (touches k (le_of_suc-le hk) d t ht o)

      before_row : j ≡ 0 → (a : Site) → line q m a.y j r ≡ a.y * w - 1
      before_row z a = ap (λ n. line q m a.y n r) z ∙ first_line q m a.y r (last-r z)

      before_column : i ≡ 0 → (a : Site) → line q m a.x i e ≡ a.x * w - 1
      before_column z a = ap (λ n. line q m a.x n e) z ∙ first_line q m a.x e (last-e z)

      earlier : 0 < i → i ≤ m → 0 < j → blk_idx (i - 1) (j - 1) < k → Known
      earlier pi li pj b =
          let n = blk_idx (i - 1) (j - 1) in
          reworded k
          (λ a. block_line q m a.y j r pj ∙ ap (λ z. (a.y * m + z) * q + r) (sym (S.of_y (i - 1) (j - 1) (omega arith) (omega arith))))
          (λ a. block_line q m a.x i e pi ∙ ap (λ z. (a.x * m + z) * q + e) (sym (S.of_x (i - 1) (j - 1) (omega arith) (omega arith))))
          (alike n r e b hr he)

      held_same : T (held_by marks (holder_at m k i j)) → Known
      held_same = by_holder m k i j marks
          (λ zi zj o. beyond D 0 at-u.block.some o (before_row zj) (before_column zi))
          (λ pi li zj o. beyond B ((i - 1) * q + e) (line_in q m (i - 1) e (omega arith) he) o (before_row zj) (λ a. inner_line q m a.x i e pi))
          (λ gi zj o.
          let z : i ≡ m + 1 = omega arith in
          beyond C e (omega (arith, line_in q m 0 e S.some he)) o (before_row zj) (λ a. ap (λ n. line q m a.x n e) z ∙ next_line q m a.x e))
          (λ zi pj o. beyond A ((j - 1) * q + r) (line_in q m (j - 1) r (omega arith) hr) o (λ a. inner_line q m a.y j r pj) (before_column zi))
          earlier

    -- sample t on a side that is there
    look : (d : Side) (t : ℕ) → t < q → T (is_there m marks k d) → Shows k (λ a. row_at q (a.y * m + scan_y k) d t) (λ a. column_at q (a.x * m + scan_x k) d t)
    unfolding is_there
    look d t ht o =
        reworded k (λ a. row_line q m a.y (scan_y k) t d some) (λ a. column_line q m a.x (scan_x k) t d some) (go d o)
      where
        x_lt : scan_x k < m
        x_lt = S.x_lt k hk

        y_lt : scan_y k < m
        y_lt = S.y_lt k hk

        go : (d : Side) → T (held_by marks (holder_at m k (next_x (scan_x k) d) (next_y (scan_y k) d)))
            → Shows k (λ a. line q m a.y (next_y (scan_y k) d) (row_in q d t)) (λ a. line q m a.x (next_x (scan_x k) d) (column_in q d t))
        go A = held_same (scan_x k) (scan_y k + 1) (q - 1) t (omega (arith, x_lt)) (omega (arith, y_lt)) (omega arith) ht (λ z. omega arith) (λ z. omega arith)
        go B = held_same (scan_x k + 1) (scan_y k) t (q - 1) (omega (arith, x_lt)) (omega (arith, y_lt)) ht (omega arith) (λ z. omega arith) (λ z. omega arith)
        go C = held_same (scan_x k + 2) (scan_y k) t (q - 1) (omega (arith, x_lt)) (omega (arith, y_lt)) ht (omega arith) (λ z. omega arith) (λ z. omega arith)
        go D = held_same (scan_x k) (scan_y k) (q - 1) (q - 1) (omega (arith, x_lt)) (omega (arith, y_lt)) (omega arith) (omega arith) (λ z. omega arith) (λ z. omega arith)

    near_alike : part_near c rule u.stride u.x u.y marks k (one k) ≡ part_near c rule v.stride v.x v.y marks k (two k)
    near_alike =
        near_same q c.wide some reach (part_place c rule u.stride u.x u.y marks k) (part_place c rule v.stride v.x v.y marks k)
        (is_there m marks k) (one k) (two k) look

  -- ---- all blocks, one after the other
  alike_all : (k : ℕ) → k ≤ m * m → BlocksAlike k
  unfolding up_to
  alike_all zero h n r e hn hr he = absurd (not-suc-le-zero hn)
  alike_all (suc k) h n r e hn hr he = go (alike_all k (le_of_suc-le h)) (ℕ_discrete n k)
    where
      ln : n < m * m
      ln = omega arith

      go : BlocksAlike k → Dec (n ≡ k) → Shows (suc k) (λ a. (a.y * m + scan_y n) * q + r) (λ a. (a.x * m + scan_x n) * q + e)
      go ih (yes d) =
          ap (λ z. get_or (one (suc k)) (index_of c rule marks S some reach u at-u z r e) 0) d
          ∙ own_put c rule marks S some reach u at-u k r e h hr he
          ∙ ap (λ z. rule k (sides_of m marks k) z e r) (near_alike k h ih)
          ∙ sym (own_put c rule marks S some reach v at-v k r e h hr he)
          ∙ sym (ap (λ z. get_or (two (suc k)) (index_of c rule marks S some reach v at-v z r e) 0) d)
      go ih (no d) =
          other_put c rule marks S some reach u at-u n r e ln hr he k h d ∙ ih n r e (omega arith) hr he
          ∙ sym (other_put c rule marks S some reach v at-v n r e ln hr he k h d)

  -- line i of square z is one of block line n, where that one is number i / q
  in_block_line : (z i n : ℕ) → n ≡ i / q → z * w + i ≡ (z * m + n) * q + i % q
  in_block_line z i n e = omega (arith, whole_mul q m z, div-add-mod' i q, add-mul (z * m) n q, ap (λ k. k * q) e)

  pub square_moved : SameLeft (c.side * c.across) (λ x y s. all_parts c rule s x y marks) u v
  square_moved i j hi hj =
      let hx : i / q < m = line_of q m i some hi in
      let hy : j / q < m = line_of q m j some hj in
      let n = blk_idx (i / q) (j / q) in
      reworded (m * m)
      (λ a. in_block_line a.y j (scan_y n) (S.of_y (i / q) (j / q) hx hy)) (λ a. in_block_line a.x i (scan_x n) (S.of_x (i / q) (j / q) hx hy))
      (alike_all (m * m) (le_refl (m * m)) n (j % q) (i % q) (S.of_lt (i / q) (j / q) hx hy) (mod-lt j some) (mod-lt i some))

-- ---- the three planes
module _ (rule : Rule) (marks : Side → Bool) (u v : Site) where
  luma_moved : (kind : ℕ) → Stands 16 marks u → Stands 16 marks v → SameAround 16 marks u v → SameLeft 16 (λ x y s. all_parts (cut_for kind) rule s x y marks) u v
  luma_moved zero = square_moved four rule marks scan_4 (omega arith) (omega arith) u v
  luma_moved (suc zero) = square_moved eight rule marks scan_2 (omega arith) (omega arith) u v
  luma_moved (suc (suc _)) = square_moved (whole 16) rule marks scan_1 (omega arith) (omega arith) u v

  chroma_moved : Stands 8 marks u → Stands 8 marks v → SameAround 8 marks u v → SameLeft 8 (λ x y s. all_parts (whole 8) rule s x y marks) u v
  chroma_moved = square_moved (whole 8) rule marks scan_1 (omega arith) (omega arith) u v

stands : (q : ℕ) (marks : Side → Bool) (u : Site) → 0 < q → HasRoom q marks u → Stands q marks u
stands q marks u some e = room_stands q (length u.plane) u.stride u.x u.y marks some e

pub moved : (marks : Side → Bool) (r : Record) → Moved marks r
moved marks r = record {
  luma = λ u v a b.
      luma_moved (luma_rule r.kind r.modes r.numbers) marks u v r.kind (stands 16 marks u (omega arith) a) (stands 16 marks v (omega arith) b);
  cb = λ u v a b. chroma_moved (chroma_rule r.chroma_mode r.numbers 16) marks u v (stands 8 marks u (omega arith) a) (stands 8 marks v (omega arith) b);
  cr = λ u v a b. chroma_moved (chroma_rule r.chroma_mode r.numbers 20) marks u v (stands 8 marks u (omega arith) a) (stands 8 marks v (omega arith) b);
}
