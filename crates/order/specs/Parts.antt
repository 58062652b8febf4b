-- A step that is made of parts, taken in the fixed order 0, 1, .., n - 1: `up_to part n`.
use Rattle.std.specs.Prelude.{◌≡◌, ℕ, ◌<◌}
use Rattle.order.specs.Order.{Alike}

-- `R k` is what part k writes. `E` is what lies outside the whole step and may be read: the regions that the step waits for.
pub record Parts {M I X : Type 0} (at : M → I → X) (ok : M → Type 0) (E : I → Type 0) (n : ℕ) (R : ℕ → I → Type 0) (part : ℕ → M → M) : Type 0 where
  pub apart : (j k : ℕ) (i : I) → j < n → k < n → R j i → R k i → j ≡ k
  pub outside : (k : ℕ) (i : I) → k < n → R k i → ¬ E i
  pub keeps : (k : ℕ) (p : M) → k < n → ok p → ok (part k p)
  pub writes : (k : ℕ) (p : M) (i : I) → k < n → ok p → ¬ R k i → at (part k p) i ≡ at p i
  -- what a part writes depends on the outside and on the parts before it: never on what the step's own places held before
  pub reads : (k : ℕ) (p q : M) → k < n → ok p → ok q → Alike at E p q → ((j : ℕ) → j < k → Alike at (R j) p q) → Alike at (R k) (part k p) (part k q)
