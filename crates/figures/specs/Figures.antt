-- The worked figures that the rules mark to be proved, those of the 8x8 inverse, and those that show where a block on its side is no more the transposed
-- one: one table, one statement, over the definitions.
use Rattle.std.specs.Prelude.{◌≡◌, ℕ, ◌+◌, ◌-◌, ◌*◌, Bool, true, false, ◌&&◌, List, [], ◌∷◌, ◌++◌, map, replicate, ℤ, pos, slice_set, refl}
use Rattle.laws.specs.Range.{minus, at}
use Rattle.laws.specs.Table.{table, sum_of, sum_z}
use Rattle.basics.specs.Clip.{Clip1}
use Rattle.samples.specs.Intra16x16.{pred_l}
use Rattle.samples.specs.IntraChroma.{region_dc, pred_c}
use Rattle.intra_nxn.specs.IntraNxN.{pred_nxn, pred4x4_l, pred8x8_l, filtered_side, filtered_corner, filtered}
use Rattle.intra_nxn.specs.IntraNxN.{down_left, down_right, vertical_right, horizontal_down, vertical_left, horizontal_up}
use Rattle.residual.specs.Inverse.{first_step as first_of_two, second_step as second_of_two, e_row as e_row4x4, f_row as f_row4x4, g_column, h_column as h_column4x4, rounded, inverse4x4}
use Rattle.transform_8x8.specs.Inverse8x8.{first_step, second_step, third_step, e_row, f_row, g_row, h_column, k_column, m_column, inverse8x8}
use Rattle.transform_8x8.specs.Flat.{lone as lone8x8}
use Rattle.basics.specs.Near.{Near, near, mean, dc}
use Rattle.samples.specs.PlaneMode.{slope, ramp, plane}
use Rattle.basics.specs.Qp.{QPc, table815}
use Rattle.turned.specs.Exchange.{on_side}
use Rattle.macroblock.specs.Square.{place_at, above_of, left_of, corner_of, near_block}

-- what the definitions give, and what the rules say that they give
pub record Figure : Type 0 where
  pub has : List ℤ
  pub is : List ℤ

infix 70 ◌gives◌
abbrev ◌gives◌ : List ℕ → List ℕ → Figure
◌gives◌ has is = record { has = map pos has; is = map pos is }

infix 70 ◌leaves◌
abbrev ◌leaves◌ : List ℤ → List ℤ → Figure
◌leaves◌ has is = record { has = has; is = is }

-- a plane with stride 12 around the 4x4 block in row 1 and column 1 of blocks: above 10, 20, .., 80, left 12, 24, 36, 48, corner 6
abbrev row : List ℕ → List ℕ
row last = replicate 3 0 ++ last

abbrev samples : List ℕ
samples =
    replicate 36 0 ++ row (6 ∷ 10 ∷ 20 ∷ 30 ∷ 40 ∷ 50 ∷ 60 ∷ 70 ∷ 80 ∷ [])
    ++ row (12 ∷ replicate 8 0) ++ row (24 ∷ replicate 8 0) ++ row (36 ∷ replicate 8 0) ++ row (48 ∷ replicate 8 0)

-- what the block reads there where above-right is marked or not; where it is not, the last sample above is repeated
abbrev beside : Bool → Near
beside right = near_block 4 (place_at 12 1 1) samples (record { above = true; left = true; corner = true; above_right = right }) 8

abbrev full : Near
full = beside true

abbrev cut : Near
cut = beside false

-- the 4x4 sample of a mode in column x and row y
abbrev sample : ℕ → Near → ℕ → ℕ → ℕ
sample mode p x y = pred4x4_l mode true true true p x y

-- DC from the marks of above and left
abbrev flat : Bool → Bool → ℕ
flat above left = pred4x4_l 2 above left (above && left) full 0 0

-- above 0 four times and 100 four times, left 40 and 80
abbrev chroma : ℕ → ℕ → ℕ
chroma = pred_c 0 true true (near (replicate 4 0 ++ replicate 4 100) (replicate 4 40 ++ replicate 4 80) 0)

-- column x of the 16x16 plane: above 0 and 255 eight times each, left and corner 0
abbrev column : ℕ → List ℕ
column x = table 16 (pred_l 3 true true (near (replicate 8 0 ++ replicate 8 255) (replicate 16 0) 0) x)

abbrev lone : ℤ → List ℤ
lone v = slice_set (replicate 16 (pos 0)) 0 v

-- the block that reaches every bound of the 8x8 inverse (transform_8x8/specs/Bounds): a value of each step, and a residual
abbrev lowest : List ℤ
lowest = replicate 64 (minus 32768)

abbrev extremes : List ℤ
extremes =
    at (e_row lowest 0) 7 ∷ at (f_row lowest 0) 7 ∷ at (g_row lowest 0) 0 ∷ at (h_column lowest 0) 7 ∷ at (k_column lowest 0) 7 ∷ at (m_column lowest 0) 0
    ∷ at (inverse8x8 lowest) 0 ∷ []

-- a row of residuals that falls through 0, and one that rises
abbrev falls : ℕ → ℕ → ℕ → ℕ → List ℤ
falls a b c d = pos a ∷ pos b ∷ pos c ∷ pos d ∷ minus d ∷ minus c ∷ minus b ∷ minus a ∷ []

abbrev rises : ℕ → ℕ → ℕ → ℕ → List ℤ
rises a b c d = minus a ∷ minus b ∷ minus c ∷ minus d ∷ pos d ∷ pos c ∷ pos b ∷ pos a ∷ []

-- around an 8x8 block: above 10, 20, .., 80 and then `right`, left 12, 24, .., 96, corner 6; on its side 96 once more stands above and to the right
abbrev wide : List ℕ → Near
wide right = near (table 8 (λ k. 10 * (k + 1)) ++ right) (table 8 (λ k. 12 * (k + 1)) ++ 96 ∷ []) 6

-- the last sample in vertical-left, and in horizontal-up on its side
abbrev lasts : ℕ → (ℕ → Bool → Bool → Bool → Near → ℕ → ℕ → ℕ) → Near → List ℕ
lasts n pred p = pred 7 true true true p (n - 1) (n - 1) ∷ pred 8 true true true (on_side p) (n - 1) (n - 1) ∷ []

-- the last sample of the first row in vertical, and of the first column in horizontal on its side
abbrev straight : Near → List ℕ
straight p = pred8x8_l 0 true true true p 7 0 ∷ pred8x8_l 1 true true true (on_side p) 0 7 ∷ []

unfoldable pub figures : List Figure
unfolding table sum_of sum_z above_of left_of corner_of near mean dc pred_c region_dc pred_l plane ramp slope inverse4x4 h_column4x4 g_column f_row4x4 e_row4x4 first_of_two second_of_two rounded
figures =
    (flat true true ∷ flat true false ∷ flat false true ∷ flat false false ∷ []) gives (28 ∷ 25 ∷ 30 ∷ 128 ∷ [])
    ∷ (sample 3 full 0 0 ∷ sample 3 full 3 3 ∷ sample 3 cut 3 3 ∷ []) gives (20 ∷ 78 ∷ 40 ∷ [])
    ∷ (sample 8 full 0 0 ∷ sample 8 full 1 0 ∷ sample 8 full 1 2 ∷ sample 8 full 3 3 ∷ []) gives (18 ∷ 24 ∷ 45 ∷ 48 ∷ [])
    ∷ (sample 5 full 0 0 ∷ sample 5 full 0 1 ∷ sample 5 full 0 2 ∷ sample 6 full 0 0 ∷ []) gives (8 ∷ 9 ∷ 14 ∷ 9 ∷ [])
    ∷ (filtered 8 true true false full 1 0 ∷ filtered 8 true true true full 1 0 ∷ []) gives (13 ∷ 12 ∷ [])
    ∷ (chroma 0 0 ∷ chroma 7 0 ∷ chroma 0 7 ∷ chroma 7 7 ∷ []) gives (20 ∷ 100 ∷ 80 ∷ 90 ∷ [])
    ∷ column 0 gives replicate 16 0 ∷ column 7 gives replicate 16 128 ∷ column 15 gives replicate 16 255
    ∷ inverse4x4 (slice_set (lone (pos 31)) 5 (pos 1)) leaves slice_set (slice_set (lone (pos 1)) 11 (pos 1)) 15 (pos 1)
    ∷ inverse4x4 (lone (pos 31)) leaves replicate 16 (pos 0) ∷ inverse4x4 (lone (pos 32)) leaves replicate 16 (pos 1)
    ∷ inverse4x4 (lone (minus 32)) leaves replicate 16 (pos 0) ∷ inverse4x4 (lone (minus 33)) leaves replicate 16 (minus 1)
    ∷ inverse8x8 (slice_set (replicate 64 (pos 0)) 9 (pos 91))
    leaves (falls 3 3 2 1 ++ falls 3 2 1 1 ++ falls 2 1 1 0 ++ falls 1 1 0 0 ++ rises 1 1 0 0 ++ rises 2 1 1 0 ++ rises 3 2 1 1 ++ rises 3 3 2 1)
    ∷ extremes leaves (minus 114688 ∷ minus 126976 ∷ minus 241664 ∷ minus 845824 ∷ minus 936448 ∷ minus 1782272 ∷ minus 27848 ∷ [])
    ∷ (QPc 29 ∷ QPc 30 ∷ QPc 51 ∷ []) gives (29 ∷ 29 ∷ 39 ∷ [])
    ∷ lasts 4 pred4x4_l full gives (60 ∷ 40 ∷ []) ∷ lasts 8 pred8x8_l (wide (80 ∷ replicate 7 160)) gives (160 ∷ 78 ∷ [])
    ∷ straight (wide (80 ∷ [])) gives (78 ∷ 78 ∷ []) ∷ straight (wide (90 ∷ [])) gives (80 ∷ 78 ∷ [])
    ∷ []

pub figures_hold : map (λ f. f.has) figures ≡ map (λ f. f.is) figures
unfolding figures pred_nxn down_left down_right vertical_right horizontal_down vertical_left horizontal_up filtered_side filtered_corner filtered Clip1 QPc table815
    first_step second_step third_step e_row f_row g_row h_column k_column m_column inverse8x8
figures_hold = refl

-- a coefficient alone at place 0 of an 8x8 block: these follow from `Flat` (transform_8x8/specs/Flat) and are not computed, 64 residuals each
pub record FlatFigures : Type 0 where
  pub of_64 : inverse8x8 (lone8x8 (pos 64)) ≡ replicate 64 (pos 1)
  pub of_31 : inverse8x8 (lone8x8 (pos 31)) ≡ replicate 64 (pos 0)
  pub of_minus_33 : inverse8x8 (lone8x8 (minus 33)) ≡ replicate 64 (minus 1)
