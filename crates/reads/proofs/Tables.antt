-- What holds for every mode, all marks and every group is an equation of two tables, which is computed. Assumes nothing.
use mathlib.Core.Path.{◌≡◌, refl, sym, ap, ◌∙◌, subst}
use mathlib.Core.Bool.{Bool, true, false, ◌&&◌}
use mathlib.Core.List.{List, [], ◌∷◌}
use mathlib.Core.Logic.{◌≢◌}
use Prim.Native.Nat.{ℕ, zero, suc, ◌<◌}
use borrow.Author.Tests.{eqb-true}
use lib.Dec.{eqb}
use lib.ListN.{get_or}
use Rattle.laws.specs.Table.{table}
use Rattle.laws.proofs.Tables.{table_at}
use Rattle.laws.proofs.Tests.{no_from}
use Rattle.basics.specs.declared.marks.Sides.{Sides}
use Rattle.reads.specs.Groups.{Group, groups_of, marked}
use Rattle.reads.specs.Groups.Group.{above, left, corner, above_right}

-- ---- marks
-- a set is told by its four marks
pub groups_are : {s : Sides} {f : Group → Bool} → s.above ≡ f above → s.left ≡ f left → s.corner ≡ f corner → s.above_right ≡ f above_right → groups_of s ≡ f
groups_are {s} {f} ea el ec er = λ i g. at g i
  where
    at : (g : Group) → groups_of s g ≡ f g
    at above = ea
    at left = el
    at corner = ec
    at above_right = er

-- the groups that a permitted mode names and that are marked, by their parts
pub read_same : {p q : Bool} {f g : Group → Bool} (marks : Group → Bool) → p ≡ q → f ≡ g → ◌≡◌ {A = Group → Bool} (λ k. p && f k && marks k) (λ k. q && g k && marks k)
read_same marks e h = λ i k. e i && h i k && marks k

-- ---- tables over a test, the marks, the groups, and numbers
abbrev pub by_test : {A : Type 0} → (Bool → A) → List A
by_test f = f true ∷ f false ∷ []

module _ {A : Type 0} (f : (Group → Bool) → A) where
  abbrev pub by_right : Bool → Bool → Bool → List A
  by_right a l c = by_test (λ r. f (marked a l c r))

  abbrev pub by_corner : Bool → Bool → List (List A)
  by_corner a l = by_test (by_right a l)

  abbrev pub by_left : Bool → List (List (List A))
  by_left a = by_test (by_corner a)

  abbrev pub by_marks : List (List (List (List A)))
  by_marks = by_test by_left

abbrev pub by_group : {A : Type 0} → (Group → A) → List A
by_group f = f above ∷ f left ∷ f corner ∷ f above_right ∷ []

-- and for each mode below n
abbrev pub by_mode : {A : Type 0} → ℕ → (ℕ → (Group → Bool) → A) → List (List (List (List (List A))))
by_mode n f = table n (λ m. by_marks (f m))

module _ {A : Type 0} where
  pub at_test : (f g : Bool → A) → by_test f ≡ by_test g → (b : Bool) → f b ≡ g b
  at_test f g e true = ap (λ l. get_or l 0 (f true)) e
  at_test f g e false = ap (λ l. get_or l 1 (f true)) e

  pub at_group : (f g : Group → A) → by_group f ≡ by_group g → (k : Group) → f k ≡ g k
  at_group f g e above = ap (λ l. get_or l 0 (f above)) e
  at_group f g e left = ap (λ l. get_or l 1 (f above)) e
  at_group f g e corner = ap (λ l. get_or l 2 (f above)) e
  at_group f g e above_right = ap (λ l. get_or l 3 (f above)) e

pub at_marks : {A : Type 0} (f g : (Group → Bool) → A) → by_marks f ≡ by_marks g → (marks : (Group → Bool)) → f marks ≡ g marks
at_marks f g e marks = subst (λ (k : (Group → Bool)). f k ≡ g k) (groups_are refl refl refl refl) (go (marks above) (marks left) (marks corner) (marks above_right))
  where
    go : (a l c r : Bool) → f (marked a l c r) ≡ g (marked a l c r)
    go a l c r =
        at_test (λ r. f (marked a l c r)) (λ r. g (marked a l c r))
        (at_test (by_right f a l) (by_right g a l) (at_test (by_corner f a) (by_corner g a) (at_test (by_left f) (by_left g) e a) l) c) r

pub at_mode : {A : Type 0} (n : ℕ) (f g : ℕ → (Group → Bool) → A) → by_mode n f ≡ by_mode n g → (m : ℕ) → m < n → (marks : (Group → Bool)) → f m marks ≡ g m marks
at_mode n f g e m h marks = at_marks (f m) (g m) (table_at n (λ m. by_marks (f m)) (λ m. by_marks (g m)) e m h) marks

-- ---- groups by number
abbrev pub number : Group → ℕ
number above = 0
number left = 1
number corner = 2
number above_right = 3

abbrev pub numbered : ℕ → Group
numbered zero = above
numbered (suc zero) = left
numbered (suc (suc zero)) = corner
numbered (suc (suc (suc _))) = above_right

numbered_is : (g : Group) → numbered (number g) ≡ g
numbered_is above = refl
numbered_is left = refl
numbered_is corner = refl
numbered_is above_right = refl

pub another : (g k : Group) → g ≢ k → eqb (number g) (number k) ≡ false
another g k h =
    no_from (eqb (number g) (number k)) (λ e. sym (numbered_is g) ∙ ap numbered (eqb-true (number g) (number k) e) ∙ numbered_is k) h
