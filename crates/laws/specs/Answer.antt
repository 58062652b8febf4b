-- What a call answers, and what it leaves in a buffer that it was lent.
use Rattle.std.specs.Prelude.{Bool, cond, List, [], ◌∷◌, ℕ, zero, suc}

-- a line of the table of refusals: the number that is given where the rule does not hold
pub record Check : Type 0 where
  pub number : ℕ
  pub holds : Bool

infix 70 ◌unless◌
abbrev pub ◌unless◌ : ℕ → Bool → Check
◌unless◌ n b = record { number = n; holds = b }

-- the number of the first rule that does not hold, and 0 where all hold
abbrev pub answer : List Check → ℕ
answer [] = 0
answer (c ∷ cs) = cond c.holds (answer cs) c.number

-- what is there after a call that answered r: `new` where r is 0, and `old` where the call is refused
abbrev pub written : {A : Type 0} → ℕ → A → A → A
written zero old new = new
written (suc r) old new = old
