-- A list that takes each of n steps once, each after those that it waits for: by the places of the list, without a map.
use Rattle.std.specs.Prelude.{◌≡◌, List, ℕ, ◌<◌, get_or, length}

-- the step at place i stands at no place before, and all that it waits for does
pub record InPlace (N : ℕ → ℕ → Type 0) (o : List ℕ) (i : ℕ) : Type 0 where
  pub new : (j : ℕ) → j < i → ¬ (get_or o j 0 ≡ get_or o i 0)
  pub after : (b : ℕ) → N (get_or o i 0) b → (j : ℕ) × (j < i) × (get_or o j 0 ≡ b)

-- the list names the n steps and nothing else, each of them in place
pub record FullOrder (n : ℕ) (N : ℕ → ℕ → Type 0) (o : List ℕ) : Type 0 where
  pub inside : (i : ℕ) → i < length o → get_or o i 0 < n
  pub every : (a : ℕ) → a < n → (i : ℕ) × (i < length o) × (get_or o i 0 ≡ a)
  pub each : (i : ℕ) → i < length o → InPlace N o i
