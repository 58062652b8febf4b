-- The prediction modes of clause 8.3 and their numbers: Tables 8-2 and 8-3 (4x4 and 8x8 luma), 8-4 (16x16 luma) and 8-5 (chroma).
use Rattle.std.specs.Prelude.{◌≡◌, ℕ, ◌<◌, Result, MatchResult}
use Rattle.refusals.specs.declared.Refusal.{Refusal}
use Rattle.refusals.specs.declared.Refusal.TheVariants.{Unknown}
use Rattle.basics.specs.declared.modes.LumaMode.{LumaMode}
use Rattle.basics.specs.declared.modes.LumaMode.TheVariants as luma
use Rattle.basics.specs.declared.modes.Luma16x16Mode.{Luma16x16Mode}
use Rattle.basics.specs.declared.modes.Luma16x16Mode.TheVariants as luma16x16
use Rattle.basics.specs.declared.modes.ChromaMode.{ChromaMode}
use Rattle.basics.specs.declared.modes.ChromaMode.TheVariants as chroma

abbrev pub luma_mode : LumaMode → ℕ
luma_mode luma.Vertical = 0
luma_mode luma.Horizontal = 1
luma_mode luma.Dc = 2
luma_mode luma.DiagonalDownLeft = 3
luma_mode luma.DiagonalDownRight = 4
luma_mode luma.VerticalRight = 5
luma_mode luma.HorizontalDown = 6
luma_mode luma.VerticalLeft = 7
luma_mode luma.HorizontalUp = 8

abbrev pub luma16x16_mode : Luma16x16Mode → ℕ
luma16x16_mode luma16x16.Vertical = 0
luma16x16_mode luma16x16.Horizontal = 1
luma16x16_mode luma16x16.Dc = 2
luma16x16_mode luma16x16.Plane = 3

abbrev pub chroma_mode : ChromaMode → ℕ
chroma_mode chroma.Dc = 0
chroma_mode chroma.Horizontal = 1
chroma_mode chroma.Vertical = 2
chroma_mode chroma.Plane = 3

-- what a number names: the mode that has it, or nothing known, where it is above the last
abbrev pub Named : {M : Type 0} → (M → ℕ) → ℕ → ℕ → Result M Refusal → Type 0
Named number_in last n r = MatchResult r (λ m. number_in m ≡ n) (λ e. (e ≡ Unknown) × (last < n))
