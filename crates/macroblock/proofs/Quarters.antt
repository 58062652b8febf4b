-- A block put in four pieces, two across, each by a rule of its number and of the column and the row that it stands in. Assumes nothing.
use mathlib.Core.Path.{◌≡◌, refl, ap, ap₂, ◌∙◌}
use mathlib.Core.List.{List}
use Prim.Native.Nat.{ℕ, ◌+◌, ◌*◌, ◌/◌, ◌%◌, ◌<◌, ◌≤◌}
use native.Mathlib.Nat.{div-lt_iff_lt-mul}
use native.Mathlib.Omega.{arith}
use lib.ListN.{length}
use Rattle.laws.specs.Steps.{up_to}
use Rattle.laws.proofs.Patches.{length_patch}
use Rattle.laws.proofs.Steps.{steps_none, steps_more, steps_length}
use Rattle.basics.specs.Nnz.{blk_idx}
use Rattle.macroblock.specs.declared.place.Place.{Place}
use Rattle.cut.specs.Cut.{scan_x, scan_y}
use Rattle.cut.proofs.Scan.{scan_2}
use Rattle.macroblock.specs.Square.{in_block, place_at, put_block}
use Rattle.macroblock.specs.inner.Blocks.{BlockIn}
use Rattle.macroblock.proofs.Fitting.{in_row}
use Rattle.macroblock.proofs.Pieces.{put_piece, whole_of, pieces_are, put_same}
use Rattle.macroblock.proofs.Sides.{in_block_lem}

-- the rule of piece k where it stands
abbrev at_scan : (ℕ → ℕ → ℕ → ℕ → ℕ → ℕ) → ℕ → ℕ → ℕ → ℕ
at_scan g k = g k (scan_x k) (scan_y k)

-- the first k pieces, of side q, are put: l is the plane before, l' the plane now
pub record Quarters (q : ℕ) (p : Place) (g : ℕ → ℕ → ℕ → ℕ → ℕ → ℕ) (l : List ℕ) (k : ℕ) (l' : List ℕ) : Type 0 where
  pub most : k ≤ 4
  pub put : l' ≡ up_to (put_piece q 2 p (at_scan g)) k l

module _ {q : ℕ} {p : Place} {g : ℕ → ℕ → ℕ → ℕ → ℕ → ℕ} {l : List ℕ} where
  pub none_yet : Quarters q p g l 0 l
  none_yet = record { most = omega arith; put = steps_none (put_piece q 2 p (at_scan g)) l }

  module _ {k : ℕ} {l' : List ℕ} (Q : Quarters q p g l k l') where
    pub same_long : length l' ≡ length l
    same_long =
        ap length Q.put
        ∙ steps_length (put_piece q 2 p (at_scan g)) (λ k l. length_patch (in_block q p.stride (p.row * 2 + scan_y k) (p.column * 2 + scan_x k)) _ l) k l

    pub one_more : {u v : ℕ} {l'' : List ℕ} → k < 4 → u ≡ scan_x k → v ≡ scan_y k → l'' ≡ put_block q (place_at p.stride (p.row * 2 + v) (p.column * 2 + u)) (g k u v) l'
        → Quarters q p g l (k + 1) l''
    one_more {u} {v} {l''} h eu ev e = record {
      most = omega arith;
      put = steps_more (put_piece q 2 p (at_scan g)) k l l' l'' Q.put
          (e ∙ ap₂ (λ u v. put_block q (place_at p.stride (p.row * 2 + v) (p.column * 2 + u)) (g k u v) l') eu ev);
    }

    -- all four make up the block
    pub all_put : (w : ℕ → ℕ → ℕ) → 4 ≤ k → 0 < q → BlockIn (q * 2) p (length l)
        → ((x y : ℕ) → x < q * 2 → y < q * 2 → g (blk_idx (x / q) (y / q)) (x / q) (y / q) (x % q) (y % q) ≡ w x y) → l' ≡ put_block (q * 2) p w l
    all_put w h some F same =
        let e : k ≡ 4 = omega (arith, Q.most) in
        Q.put ∙ ap (λ n. up_to (put_piece q 2 p (at_scan g)) n l) e ∙ pieces_are q 2 (length l) p (at_scan g) scan_2 some F l refl
        ∙ put_same (q * 2) p (whole_of q (at_scan g)) w l (omega arith) (λ x y hx hy. stands x y hx hy ∙ same x y hx hy)
      where
        stands : (x y : ℕ) → x < q * 2 → y < q * 2 → whole_of q (at_scan g) x y ≡ g (blk_idx (x / q) (y / q)) (x / q) (y / q) (x % q) (y % q)
        stands x y hx hy =
            let a : x / q < 2 = (div-lt_iff_lt-mul some).1 (omega arith) in
            let b : y / q < 2 = (div-lt_iff_lt-mul some).1 (omega arith) in
            ap₂ (λ u v. g (blk_idx (x / q) (y / q)) u v (x % q) (y % q)) (scan_2.of_x (x / q) (y / q) a b) (scan_2.of_y (x / q) (y / q) a b)

-- ---- piece k, in column u and row v: it lies in the plane
pub record AtQuarter (q : ℕ) (p : Place) (n u v : ℕ) : Type 0 where
  pub across : u < 2
  pub down : v < 2
  pub block : BlockIn q (place_at p.stride (p.row * 2 + v) (p.column * 2 + u)) n
  pub line : (p.row * 2 + v) * q ≤ n

pub at_quarter : {q n k u v : ℕ} {p : Place} → 0 < q → k < 4 → BlockIn (q * 2) p n → u ≡ scan_x k → v ≡ scan_y k → AtQuarter q p n u v
at_quarter {q} {n} {k} {u} {v} {p} some hk F eu ev =
    let w : BlockIn q (place_at p.stride (p.row * 2 + v) (p.column * 2 + u)) n = rw (eu, ev) (in_block_lem q 2 k scan_2 some hk F) in
    record { across = rw eu (scan_2.x_lt k hk); down = rw ev (scan_2.y_lt k hk); block = w; line = omega (arith, (in_row 0 w some).line) }
