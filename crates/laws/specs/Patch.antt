-- A list with the elements at some places put anew.
use Rattle.std.specs.Prelude.{Bool, cond, List, [], ◌∷◌, ℕ, suc}

-- the same for a list whose first place is number k
abbrev pub patch_from : (ℕ → Bool) → (ℕ → ℕ) → ℕ → List ℕ → List ℕ
patch_from there new k [] = []
patch_from there new k (x ∷ l) = cond (there k) (new k) x ∷ patch_from there new (suc k) l

-- `new i` at each place i where the test holds, and what the list held elsewhere
unfoldable pub patch : (ℕ → Bool) → (ℕ → ℕ) → List ℕ → List ℕ
patch there new l = patch_from there new 0 l
