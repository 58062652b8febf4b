-- The sets of groups are exact: a group is in the set if and only if the prediction minds its samples. Said once, of every predictor.
use Rattle.std.specs.Prelude.{◌≡◌, Bool, true, false, ◌↔◌, ◌≢◌, ℕ, ◌<◌}
use Rattle.basics.specs.Marks.{permitted_nxn, permitted16x16, permitted_chroma}
use Rattle.basics.specs.Near.{Near}
use Rattle.intra_nxn.specs.IntraNxN.{pred4x4_l, pred8x8_l}
use Rattle.samples.specs.Intra16x16.{pred_l}
use Rattle.samples.specs.IntraChroma.{pred_c}
use Rattle.reads.specs.Groups.{Group, Samples, group_size, near_by, reads4x4, reads8x8, reads16x16, reads_chroma}
use Rattle.reads.specs.Groups.Group.{above, left, corner, above_right}

-- a predictor of blocks of `side` by `side` samples: the modes that the marks of above, left and corner permit, the sample in column x and row y by mode,
-- marks and neighbourhood, and the groups that a mode reads where some are marked
pub record Predictor : Type 0 where
  pub side : ℕ
  pub permitted : Bool → Bool → Bool → ℕ → Bool
  pub pred : ℕ → Bool → Bool → Bool → Near → ℕ → ℕ → ℕ
  pub reads : (Group → Bool) → ℕ → Group → Bool

-- 8.3.1, 8.3.2, 8.3.3 and 8.3.4
abbrev pub luma4x4 : Predictor
luma4x4 = record { side = 4; permitted = permitted_nxn; pred = pred4x4_l; reads = reads4x4 }

abbrev pub luma8x8 : Predictor
luma8x8 = record { side = 8; permitted = permitted_nxn; pred = pred8x8_l; reads = reads8x8 }

abbrev pub luma16x16 : Predictor
luma16x16 = record { side = 16; permitted = permitted16x16; pred = λ m a l c p x y. pred_l m a l p x y; reads = reads16x16 }

abbrev pub chroma8x8 : Predictor
chroma8x8 = record { side = 8; permitted = permitted_chroma; pred = λ m a l c p x y. pred_c m a l p x y; reads = reads_chroma }

-- s and t have the same samples in group g
abbrev pub SameIn : Predictor → Samples → Samples → Group → Type 0
SameIn P s t g = (i : ℕ) → i < group_size P.side g → s g i ≡ t g i

module _ (P : Predictor) (marks : Group → Bool) (m : ℕ) where
  abbrev pub permits : Bool
  permits = P.permitted (marks above) (marks left) (marks corner) m

  abbrev pub predicted : Samples → ℕ → ℕ → ℕ
  predicted s = P.pred m (marks above) (marks left) (marks corner) (near_by P.side (marks above_right) s)

  -- two neighbourhoods of bytes that differ in group k only, and yet predict something else
  pub record Minds (k : Group) : Type 0 where
    pub s : Samples
    pub t : Samples
    pub s_bytes : (g : Group) (i : ℕ) → s g i < 256
    pub t_bytes : (g : Group) (i : ℕ) → t g i < 256
    pub elsewhere : (g : Group) → g ≢ k → SameIn P s t g
    pub x : ℕ
    pub y : ℕ
    pub x_in : x < P.side
    pub y_in : y < P.side
    pub differ : predicted s x y ≢ predicted t x y

pub record Exactly (P : Predictor) : Type 0 where
  -- a permitted mode reads a group exactly when it minds the samples of that group
  pub exactly : (marks : Group → Bool) (m : ℕ) (k : Group) → permits P marks m ≡ true → (P.reads marks m k ≡ true) ↔ Minds P marks m k
  -- a mode that is not permitted reads none
  pub refused : (marks : Group → Bool) (m : ℕ) (k : Group) → permits P marks m ≡ false → P.reads marks m k ≡ false
  -- what is read is marked
  pub there : (marks : Group → Bool) (m : ℕ) (k : Group) → P.reads marks m k ≡ true → marks k ≡ true
  -- and all that is read decides: whatever stands in the other groups, all at once, the prediction is the same
  pub decides : (marks : Group → Bool) (m : ℕ) → permits P marks m ≡ true
      → (s t : Samples) → ((g : Group) → P.reads marks m g ≡ true → SameIn P s t g)
      → (x y : ℕ) → x < P.side → y < P.side → predicted P marks m s x y ≡ predicted P marks m t x y
