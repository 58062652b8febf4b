-- Lists of steps: what they name, and the same list in another order.
use Rattle.std.specs.Prelude.{◌≡◌, ◌⊎◌, List, [], ◌∷◌, ◌++◌, ℕ, ◌<◌}

-- the list names a
abbrev pub Names : List ℕ → ℕ → Type 0
Names [] a = ⊥
Names (b ∷ l) a = (a ≡ b) ⊎ Names l a

-- lists one after the other
abbrev pub joined : {A : Type 0} → List (List A) → List A
joined [] = []
joined (l ∷ ls) = l ++ joined ls

-- no step is named twice
abbrev pub Distinct : List ℕ → Type 0
Distinct [] = Unit {0}
Distinct (a ∷ l) = (¬ Names l a) × Distinct l

-- each is below those behind it
abbrev pub Rises : List ℕ → Type 0
Rises [] = Unit {0}
Rises (a ∷ l) = ((b : ℕ) → Names l b → a < b) × Rises l

-- the same steps in another order: what exchanges of two that stand side by side make of a list
pub data Permutes : List ℕ → List ℕ → Type 0 where
  none : Permutes [] []
  keep : (a : ℕ) {o l : List ℕ} → Permutes o l → Permutes (a ∷ o) (a ∷ l)
  swap : (a b : ℕ) (l : List ℕ) → Permutes (a ∷ b ∷ l) (b ∷ a ∷ l)
  join : {o u l : List ℕ} → Permutes o u → Permutes u l → Permutes o l
