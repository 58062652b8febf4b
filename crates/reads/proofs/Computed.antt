-- What is computed of the predictors, for every mode and all marks: that each can do with the groups that it reads, and that each of these can change
-- something. Assumes nothing.
use mathlib.Core.Path.{◌≡◌, refl}
use mathlib.Core.Bool.{Bool, true, cond, not, ◌&&◌, ◌||◌}
use mathlib.Core.List.{List, []}
use Prim.Native.Nat.{ℕ}
use lib.Dec.{eqb}
use Rattle.laws.specs.Table.{table, all_below, sum_of, sum_z}
use Rattle.basics.specs.Clip.{Clip1}
use Rattle.intra_nxn.specs.IntraNxN.{pred_nxn, filtered, filtered_side, filtered_corner, down_left, down_right, vertical_right, horizontal_down, vertical_left, horizontal_up}
use Rattle.samples.specs.Intra16x16.{pred_l}
use Rattle.samples.specs.IntraChroma.{pred_c, region_dc}
use Rattle.samples.specs.PlaneMode.{plane, slope, ramp}
use Rattle.basics.specs.Near.{dc, mean}
use Rattle.reads.specs.Groups.{Group, Samples, near_by}
use Rattle.reads.specs.Exactly.{Predictor, luma4x4, luma8x8, luma16x16, chroma8x8, permits, predicted}
use Rattle.reads.proofs.Tables.{by_mode, by_group, number}

-- a permitted mode predicts the same where only the groups that it reads are marked, and is permitted there
abbrev pub block : Predictor → (Group → Bool) → ℕ → Samples → List (List ℕ)
block P marks m s = table P.side (λ y. table P.side (λ x. predicted P marks m s x y))

abbrev pub Alone : Predictor → ℕ → Type 0
Alone P modes =
    (s : Samples) → by_mode modes (λ m marks. cond (permits P marks m) (block P marks m s) []) ≡ by_mode modes (λ m marks. cond (permits P marks m) (block P (P.reads marks m) m s) [])

abbrev pub Kept : Predictor → ℕ → Type 0
Kept P modes = by_mode modes (λ m marks. not (permits P marks m) || permits P (P.reads marks m) m) ≡ by_mode modes (λ m marks. true)

-- all samples 0, and those of one group 255
abbrev pub dark : Samples
dark g i = 0

abbrev pub lit : Group → Samples
lit k g i = cond (eqb (number g) (number k)) 255 0

-- a group that is read is there, and lighting it changes a sample of the prediction
abbrev pub same : Predictor → (Group → Bool) → ℕ → Group → ℕ → ℕ → Bool
same P marks m k y x = eqb (predicted P marks m dark x y) (predicted P marks m (lit k) x y)

abbrev pub shows : Predictor → (Group → Bool) → ℕ → Group → Bool
shows P marks m k = marks k && not (all_below P.side (λ y. all_below P.side (same P marks m k y)))

abbrev pub Shown : Predictor → ℕ → Type 0
Shown P modes = by_mode modes (λ m marks. by_group (λ k. not (P.reads marks m k) || shows P marks m k)) ≡ by_mode modes (λ m marks. by_group (λ k. true))

pub alone_4x4 : Alone luma4x4 9
unfolding table pred_nxn dc mean sum_of down_left down_right vertical_right horizontal_down vertical_left horizontal_up near_by
alone_4x4 s = refl

pub alone_8x8 : Alone luma8x8 9
unfolding table pred_nxn filtered filtered_side filtered_corner dc mean sum_of down_left down_right vertical_right horizontal_down vertical_left horizontal_up near_by
alone_8x8 s = refl

pub alone_16x16 : Alone luma16x16 4
unfolding table pred_l dc mean sum_of plane slope sum_z near_by
alone_16x16 s = refl

pub alone_chroma : Alone chroma8x8 4
unfolding table pred_c region_dc mean sum_of plane slope sum_z near_by
alone_chroma s = refl

pub shown_4x4 : Shown luma4x4 9
unfolding table all_below pred_nxn dc mean sum_of down_left down_right vertical_right horizontal_down vertical_left horizontal_up near_by
shown_4x4 = refl

pub shown_8x8 : Shown luma8x8 9
unfolding table all_below pred_nxn filtered filtered_side filtered_corner dc mean sum_of down_left down_right vertical_right horizontal_down vertical_left horizontal_up near_by
shown_8x8 = refl

pub shown_16x16 : Shown luma16x16 4
unfolding table all_below pred_l dc mean sum_of plane slope sum_z ramp Clip1 near_by
shown_16x16 = refl

pub shown_chroma : Shown chroma8x8 4
unfolding table all_below pred_c region_dc mean sum_of plane slope sum_z ramp Clip1 near_by
shown_chroma = refl

pub kept_4x4 : Kept luma4x4 9
unfolding table
kept_4x4 = refl

pub kept_8x8 : Kept luma8x8 9
unfolding table
kept_8x8 = refl

pub kept_16x16 : Kept luma16x16 4
unfolding table
kept_16x16 = refl

pub kept_chroma : Kept chroma8x8 4
unfolding table
kept_chroma = refl
