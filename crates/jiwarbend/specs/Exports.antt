-- How C's numbers and lists stand for the values of the routines.
use Rattle.std.specs.Prelude.{Bool, true, false, List, ℕ, eqb, length, Option, Some, None}

-- a list has the length that a call asks for
infix 80 ◌has◌
abbrev pub ◌has◌ : {A : Type 0} → List A → ℕ → Bool
◌has◌ l n = eqb (length l) n

-- a number of coefficients, or none, by its mark
abbrev pub neighbor : Bool → ℕ → Option ℕ
neighbor true n = Some n
neighbor false n = None
