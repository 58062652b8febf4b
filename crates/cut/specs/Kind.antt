-- The kinds of a macroblock's luma and their numbers.
use Rattle.std.specs.Prelude.{◌≡◌, ℕ, ◌<◌, Result, MatchResult}
use Rattle.refusals.specs.declared.Refusal.{Refusal}
use Rattle.refusals.specs.declared.Refusal.TheVariants.{Unknown}
use Rattle.cut.specs.declared.kind.Kind.{Kind}
use Rattle.cut.specs.declared.kind.Kind.TheVariants.{Luma4x4, Luma8x8, Luma16x16}

abbrev pub kind_number : Kind → ℕ
kind_number Luma4x4 = 0
kind_number Luma8x8 = 1
kind_number Luma16x16 = 2

-- what a number names: the kind that has it, or none, where it is above 2
abbrev pub NamedKind : ℕ → Result Kind Refusal → Type 0
NamedKind n r = MatchResult r (λ kind. kind_number kind ≡ n) (λ e. (e ≡ Unknown) × (2 < n))
