-- Steps taken one after the other, as a loop takes them. Assumes nothing.
use mathlib.Core.Path.{◌≡◌, refl, ap, ◌∙◌}
use mathlib.Core.List.{List}
use Prim.Native.Nat.{ℕ, zero, suc, ◌+◌}
use native.Mathlib.Numerals.{add-one}
use lib.ListN.{length}
use Rattle.laws.specs.Steps.{up_to}

pub steps_none : {M : Type 0} (step : ℕ → M → M) (m : M) → m ≡ up_to step 0 m
unfolding up_to
steps_none step m = refl

pub steps_more : {M : Type 0} (step : ℕ → M → M) (k : ℕ) (m m₁ m₂ : M) → m₁ ≡ up_to step k m → m₂ ≡ step k m₁ → m₂ ≡ up_to step (k + 1) m
unfolding up_to
steps_more step k m m₁ m₂ e f = rw (add-one k) (f ∙ ap (step k) e)

-- steps that keep the length of a list
pub steps_length : {A : Type 0} (step : ℕ → List A → List A) → ((k : ℕ) (l : List A) → length (step k l) ≡ length l) → (k : ℕ) (l : List A) → length (up_to step k l) ≡ length l
unfolding up_to
steps_length step keeps zero l = refl
steps_length step keeps (suc k) l = keeps k (up_to step k l) ∙ steps_length step keeps k l
