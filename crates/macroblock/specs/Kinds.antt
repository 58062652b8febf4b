-- The decoding of an intra macroblock by its kind: prediction by 8.3.1 (kind 0, 4x4), 8.3.2 (1, 8x8), 8.3.3 (2, 16x16) and 8.3.4 (chroma), residuals by 8.5.1
-- to 8.5.4, and their sum by 8.5.14.
use Rattle.std.specs.Prelude.{◌≡◌, Bool, List, ℕ, zero, suc, ◌+◌, ◌*◌, ◌/◌, ◌%◌, ℤ, pos, ◌+ℤ◌, get_or}
use Rattle.laws.specs.Range.{at}
use Rattle.laws.specs.Table.{table}
use Rattle.basics.specs.Clip.{Clip1}
use Rattle.samples.specs.Intra16x16.{pred_l}
use Rattle.samples.specs.IntraChroma.{pred_c}
use Rattle.intra_nxn.specs.IntraNxN.{pred4x4_l, pred8x8_l}
use Rattle.residual.specs.Inverse.{inverse4x4}
use Rattle.transform_8x8.specs.Inverse8x8.{inverse8x8}
use Rattle.basics.specs.Near.{Near}
use Rattle.basics.specs.Nnz.{blk_idx}
use Rattle.maps.specs.Neighbours.{Side}
use Rattle.macroblock.specs.declared.Record.{Record}
use Rattle.macroblock.specs.declared.RecordRef.{RecordRef}
use Rattle.macroblock.specs.declared.Planes.{Planes}
use Rattle.basics.specs.declared.marks.Sides.{Sides}
use Rattle.cut.specs.Cut.{whole, cut_for}
use Rattle.macroblock.specs.Square.{Rule, all_parts}

-- a record by its parts, as a call is given them
abbrev pub record_of : ℕ → List ℕ → ℕ → List ℤ → Record
record_of kind modes chroma numbers = record { kind = kind; modes = modes; chroma_mode = chroma; numbers = numbers }

abbrev pub record_in : RecordRef → Record
record_in r = record_of r.kind r.modes.now r.chroma_mode r.numbers.now

-- what is lent is the same memory after a call, and its rows stand as far apart
pub record SameLent (old new : Planes) : Type 0 where
  pub luma : new.luma.ghost_name ≡ old.luma.ghost_name
  pub cb : new.cb.ghost_name ≡ old.cb.ghost_name
  pub cr : new.cr.ghost_name ≡ old.cr.ghost_name
  pub strides : new.strides ≡ old.strides

-- ---- coefficient blocks of n numbers each: 4x4 blocks are sixteen for luma in scan order, then four for Cb and four for Cr; 8x8 blocks are four for the
-- luma of kind 1
abbrev pub coefficients : ℕ → List ℤ → ℕ → List ℤ
coefficients n numbers b = table n (λ i. at numbers (n * b + i))

-- ---- residuals
-- of 4x4 coefficient block b, and of 8x8 coefficient block k
unfoldable pub residual4x4 : List ℤ → ℕ → ℕ → ℕ → ℤ
residual4x4 numbers b x y = at (inverse4x4 (coefficients 16 numbers b)) (4 * y + x)

unfoldable pub residual8x8 : List ℤ → ℕ → ℕ → ℕ → ℤ
residual8x8 numbers k x y = at (inverse8x8 (coefficients 64 numbers k)) (8 * y + x)

-- of a larger block whose pieces are the coefficient blocks from b on
abbrev pub residual_in : List ℤ → ℕ → ℕ → ℕ → ℤ
residual_in numbers b x y = residual4x4 numbers (b + blk_idx (x / 4) (y / 4)) (x % 4) (y % 4)

-- of luma block k, by kind
abbrev pub residual_l : ℕ → List ℤ → ℕ → ℕ → ℕ → ℤ
residual_l zero numbers k x y = residual4x4 numbers k x y
residual_l (suc zero) numbers k x y = residual8x8 numbers k x y
residual_l (suc (suc _)) numbers k x y = residual_in numbers 0 x y

-- ---- luma, by kind
abbrev pub pred_for : ℕ → ℕ → Sides → Near → ℕ → ℕ → ℕ
pred_for zero mode sides p = pred4x4_l mode sides.above sides.left sides.corner p
pred_for (suc zero) mode sides p = pred8x8_l mode sides.above sides.left sides.corner p
pred_for (suc (suc _)) mode sides p = pred_l mode sides.above sides.left p

-- 8.5.14: u = Clip1( pred + r )
abbrev pub luma_rule : ℕ → List ℕ → List ℤ → Rule
luma_rule kind modes numbers k sides p x y = Clip1 (pos (pred_for kind (get_or modes k 0) sides p x y) +ℤ residual_l kind numbers k x y)

-- ---- chroma, whose residuals are those of the coefficient blocks from b on
abbrev pub chroma_rule : ℕ → List ℤ → ℕ → Rule
chroma_rule mode numbers b k sides p x y = Clip1 (pos (pred_c mode sides.above sides.left p x y) +ℤ residual_in numbers b x y)

-- ---- what is left of each plane, with stride s, where macroblock (x, y) is rebuilt from record r by the marks of its neighbours
module _ (x y : ℕ) (marks : Side → Bool) (r : Record) (s : ℕ) where
  abbrev pub luma_square : List ℕ → List ℕ
  luma_square plane = all_parts (cut_for r.kind) (luma_rule r.kind r.modes r.numbers) s x y marks plane

  abbrev pub cb_square : List ℕ → List ℕ
  cb_square plane = all_parts (whole 8) (chroma_rule r.chroma_mode r.numbers 16) s x y marks plane

  abbrev pub cr_square : List ℕ → List ℕ
  cr_square plane = all_parts (whole 8) (chroma_rule r.chroma_mode r.numbers 20) s x y marks plane
