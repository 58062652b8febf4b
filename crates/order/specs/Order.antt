-- Steps that rebuild parts of a memory, and the orders in which they may be taken.
-- `at m i` is what memory m holds at place i. Step a writes the places of its region `R a`, and waits for the steps b with `N a b`.
-- A map of bytes says which steps are done: 1 is done, any other byte is undone. The order 0, 1, .., n - 1 leaves `up_to step n m`.
use Rattle.std.specs.Prelude.{◌≡◌, cond, List, [], ◌∷◌, ◌++◌, ℕ, zero, suc, ◌+◌, ◌<◌, eqb, get_or, set}

-- two memories are alike on S: they hold the same at every place of it
abbrev pub Alike : {M I X : Type 0} (at : M → I → X) (S : I → Type 0) (p q : M) → Type 0
Alike {I} at S p q = (i : I) → S i → at p i ≡ at q i

-- What is asked of n steps. `ok` is what a memory needs to be worked on at all: for planes, their lengths.
pub record Laws {M I X : Type 0} (at : M → I → X) (ok : M → Type 0) (n : ℕ) (R : ℕ → I → Type 0) (N : ℕ → ℕ → Type 0) (step : ℕ → M → M) : Type 0 where
  -- no place is in two regions
  pub apart : (a b : ℕ) (i : I) → a < n → b < n → R a i → R b i → a ≡ b
  -- a step waits for earlier ones only
  pub earlier : (a b : ℕ) → a < n → N a b → b < a
  pub keeps : (a : ℕ) (p : M) → a < n → ok p → ok (step a p)
  -- a step writes in its own region only
  pub writes : (a : ℕ) (p : M) (i : I) → a < n → ok p → ¬ R a i → at (step a p) i ≡ at p i
  -- what it writes there depends on the regions that it waits for, and on nothing else
  pub reads : (a : ℕ) (p q : M) → a < n → ok p → ok q → ((b : ℕ) → N a b → Alike at (R b) p q) → Alike at (R a) (step a p) (step a q)

abbrev pub Done : List ℕ → ℕ → Type 0
Done d a = get_or d a 0 ≡ 1

abbrev pub AllDone : ℕ → List ℕ → Type 0
AllDone n d = (a : ℕ) → a < n → Done d a

abbrev pub Ready : (N : ℕ → ℕ → Type 0) → List ℕ → ℕ → Type 0
Ready N d a = (b : ℕ) → N a b → Done d b

-- the memory after the steps of a list, taken one after the other
abbrev pub build : {M : Type 0} → (ℕ → M → M) → List ℕ → M → M
build step [] p = p
build step (a ∷ o) p = build step o (step a p)

-- the map after them
abbrev pub marked : List ℕ → List ℕ → List ℕ
marked [] d = d
marked (a ∷ o) d = marked o (set d a 1)

-- each step of the list is one of the n, undone as its turn comes, and all that it waits for is done by then
abbrev pub Permitted : ℕ → (ℕ → ℕ → Type 0) → List ℕ → List ℕ → Type 0
Permitted n N [] d = Unit {0}
Permitted n N (a ∷ o) d = (a < n) × (¬ Done d a) × Ready N d a × Permitted n N o (set d a 1)

-- a is the first of n steps that a map does not show as done
pub record First (n : ℕ) (d : List ℕ) (a : ℕ) : Type 0 where
  pub inside : a < n
  pub undone : ¬ Done d a
  pub below : (b : ℕ) → b < a → Done d b

-- all that a map does not show as done, the smallest first, where its first byte is that of step k
abbrev pub undone_from : ℕ → List ℕ → List ℕ
undone_from k [] = []
undone_from k (b ∷ d) = cond (eqb b 1) (undone_from (suc k) d) (k ∷ undone_from (suc k) d)

-- how many bytes of a map are 1
abbrev pub is_one : ℕ → ℕ
is_one zero = 0
is_one (suc zero) = 1
is_one (suc (suc b)) = 0

abbrev pub ones : List ℕ → ℕ
ones [] = 0
ones (b ∷ d) = is_one b + ones d

-- 0, 1, .., n - 1
abbrev pub raster : ℕ → List ℕ
raster zero = []
raster (suc n) = raster n ++ (n ∷ [])
