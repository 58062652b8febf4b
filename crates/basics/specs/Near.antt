-- The samples around a block, and what the prediction modes of clause 8.3 share.
--
-- A neighbourhood p gives them by coordinates that are one more than the standard's, so that -1 is 0: p i j is p[ i - 1, j - 1 ].
-- So p[ x, -1 ] is p (x + 1) 0, p[ -1, y ] is p 0 (y + 1) and p[ -1, -1 ] is p 0 0.
use Rattle.std.specs.Prelude.{◌≡◌, Bool, true, false, cond, List, ℕ, ◌+◌, ◌-◌, ◌*◌, ◌/◌, ◌≤◌, eqb, get_or}
use Rattle.laws.specs.Table.{sum_of}

abbrev pub Near : Type 0
Near = ℕ → ℕ → ℕ

-- the neighbourhood of the samples above, left and at the corner, handed as lists
unfoldable pub near : List ℕ → List ℕ → ℕ → Near
near top left corner i j = cond (eqb j 0) (cond (eqb i 0) corner (get_or top (i - 1) 0)) (get_or left (j - 1) 0)

-- the neighbourhood of a block in a plane with a stride, where the corner stands at `at`
unfoldable pub near_in : List ℕ → ℕ → ℕ → Near
near_in plane at stride i j = get_or plane (at + i + j * stride) 0

-- 8.3.1.2.1, 8.3.2.2.2, 8.3.3.1, 8.3.4.3: Vertical
abbrev pub vertical : Near → ℕ → ℕ → ℕ
vertical p x y = p (x + 1) 0

-- 8.3.1.2.2, 8.3.2.2.3, 8.3.3.2, 8.3.4.2: Horizontal
abbrev pub horizontal : Near → ℕ → ℕ → ℕ
horizontal p x y = p 0 (y + 1)

-- the rounded mean of the sides that are there, by the sums of n samples above and of n left; 128 where neither is
unfoldable pub mean : ℕ → Bool → Bool → ℕ → ℕ → ℕ
mean n true true above left = (above + left + n) / (2 * n)
mean n true false above left = (above + n / 2) / n
mean n false true above left = (left + n / 2) / n
mean n false false above left = 128

-- 8.3.1.2.3, 8.3.2.2.4, 8.3.3.3: DC of a block of side n
unfoldable pub dc : ℕ → Bool → Bool → Near → ℕ
dc n above left p = mean n above left (sum_of n (λ x. p (x + 1) 0)) (sum_of n (λ y. p 0 (y + 1)))

-- p and q have the same samples on each side that is there: `wide` samples above and `tall` left
pub record Agree (wide tall : ℕ) (above left corner : Bool) (p q : Near) : Type 0 where
  pub on_above : above ≡ true → (i : ℕ) → 1 ≤ i → i ≤ wide → p i 0 ≡ q i 0
  pub on_left : left ≡ true → (j : ℕ) → 1 ≤ j → j ≤ tall → p 0 j ≡ q 0 j
  pub on_corner : corner ≡ true → p 0 0 ≡ q 0 0
