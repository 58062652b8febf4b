-- The greatest of the modes that a kind uses, and that of the others, tell whether each is known. Assumes nothing.
use mathlib.Core.Path.{◌≡◌, refl, sym, ap, ap₂, ◌∙◌}
use mathlib.Core.Bool.{Bool, true, false, cond, ◌&&◌}
use mathlib.Core.List.{List, [], ◌∷◌}
use Prim.Native.Nat.{ℕ, suc, ◌+◌, ◌-◌, ◌≤◌, ◌<◌, max}
use Rattle.std.specs.Prelude.{fold}
use native.Mathlib.Omega.{arith}
use borrow.Author.Tests.{eqb-true, leb-true, le-leb, lt-ltb, le-ltb, eq-eqb}
use borrow.Rule.Slice.PartMut.{mid_of}
use lib.Dec.{eqb, leb}
use lib.ListN.{length, get_or, take, length-take, length-drop}
use lib.Seq.{get_or-take}
use Rattle.laws.specs.Table.{all_below}
use Rattle.laws.proofs.Stretches.{part_at}
use Rattle.laws.proofs.Tests.{true_t, T_true, same_test, and_left, and_right, and_of, and_assoc, all_same, all_split}
use Rattle.cut.specs.declared.kind.Kind.{Kind}
use Rattle.cut.specs.declared.kind.Kind.TheVariants.{Luma4x4, Luma8x8, Luma16x16}
use Rattle.cut.specs.Cut.{used}
use Rattle.cut.specs.Kind.{kind_number}
use Rattle.cut.proofs.ByKind.{used_few}
use Rattle.macroblock.specs.Rules.{last_mode, mode_known}

-- the number of a kind is at most 2
pub kind_low : (kind : Kind) → leb (kind_number kind) 2 ≡ true
kind_low Luma4x4 = refl
kind_low Luma8x8 = refl
kind_low Luma16x16 = refl

-- 0 and at most 0
pub none : (m : ℕ) → leb m 0 ≡ eqb m 0
none m =
    same_test _ _ (λ t. true_t _ (eq-eqb m 0 (omega (arith, leb-true m 0 (T_true _ t))))) (λ t. true_t _ (le-leb m 0 (omega (arith, eqb-true m 0 (T_true _ t)))))

module _ (kind : ℕ) (modes : List ℕ) (n : ℕ) (e : n ≡ used kind) where
  abbrev low : ℕ → Bool
  low k = leb (get_or modes k 0) (last_mode kind)

  used_one : (k : ℕ) → k < n → low k ≡ mode_known kind modes k
  used_one k h = sym (ap (λ t. cond t (low k) (eqb (get_or modes k 0) 0)) (lt-ltb k (used kind) (omega (arith, e))))

  other_one : (k : ℕ) → leb (get_or modes (n + k) 0) 0 ≡ mode_known kind modes (n + k)
  other_one k =
      none (get_or modes (n + k) 0)
      ∙ sym (ap (λ t. cond t (low (n + k)) (eqb (get_or modes (n + k) 0) 0)) (le-ltb (n + k) (used kind) (omega (arith, e))))

  pub modes_known : all_below n (λ k. leb (get_or modes k 0) (last_mode kind)) && all_below (16 - n) (λ k. leb (get_or modes (n + k) 0) 0) ≡ all_below 16 (mode_known kind modes)
  modes_known =
      let m : n + (16 - n) ≡ 16 = omega (arith, e, used_few kind) in
      ap₂ ◌&&◌ (all_same n _ _ used_one) (all_same (16 - n) _ _ (λ k _. other_one k))
      ∙ sym (all_split n (16 - n) (mode_known kind modes)) ∙ ap (λ k. all_below k (mode_known kind modes)) m

-- ---- the greater of two numbers is at most what both are
max_low : (a b c : ℕ) → leb (max a b) c ≡ leb a c && leb b c
max_low a b c =
    same_test _ _ (λ t. let h = leb-true (max a b) c (T_true _ t) in true_t _ (and_of (le-leb a c (omega arith)) (le-leb b c (omega arith))))
    (λ t.
    let p = leb-true a c (and_left (leb a c) (leb b c) (T_true _ t)) in
    let q = leb-true b c (and_right (leb a c) (leb b c) (T_true _ t)) in
    true_t _ (le-leb (max a b) c (omega arith)))

-- the greatest of some numbers is at most what each of them is
pub fold_low : (g c : ℕ) (l : List ℕ) → leb (fold max g l) c ≡ leb g c && all_below (length l) (λ k. leb (get_or l k 0) c)
unfolding all_below
fold_low g c [] = alone (leb g c)
  where
    alone : (t : Bool) → t ≡ t && true
    alone true = refl
    alone false = refl
fold_low g c (x ∷ l) =
    let n = length l in
    let e : 1 + n ≡ suc n = omega arith in
    fold_low (max g x) c l
    ∙ ap (λ t. t && all_below n (λ k. leb (get_or l k 0) c)) (max_low g x c)
    ∙ and_assoc (leb g c) (leb x c) (all_below n (λ k. leb (get_or l k 0) c))
    ∙ ap (λ t. leb g c && t)
    (ap (λ t. leb x c && t) (sym (all_same n _ _ (λ k h. let f : 1 + k ≡ suc k = omega arith in ap (λ j. leb (get_or (x ∷ l) j 0) c) f)))
    ∙ sym (all_split 1 n (λ k. leb (get_or (x ∷ l) k 0) c)) ∙ ap (λ m. all_below m (λ k. leb (get_or (x ∷ l) k 0) c)) e)

-- ---- the first n modes, and those after them
module _ (a n : ℕ) (l : List ℕ) (h : n ≤ length l) where
  pub first_modes : all_below (length (take n l)) (λ k. leb (get_or (take n l) k 0) a) ≡ all_below n (λ k. leb (get_or l k 0) a)
  first_modes =
      let m : length (take n l) ≡ n = omega (arith, length-take n l) in
      ap (λ i. all_below i (λ k. leb (get_or (take n l) k 0) a)) m ∙ all_same n _ _ (λ k g. ap (λ v. leb v a) (get_or-take n l k 0 g))

  pub other_modes : let part = mid_of n (length l - n) l in all_below (length part) (λ k. leb (get_or part k 0) a) ≡ all_below (length l - n) (λ k. leb (get_or l (n + k) 0) a)
  other_modes =
      let part = mid_of n (length l - n) l in
      let m : length part ≡ length l - n = simp (length-take, length-drop) (omega arith) in
      ap (λ i. all_below i (λ k. leb (get_or part k 0) a)) m ∙ all_same (length l - n) _ _ (λ k g. ap (λ v. leb v a) (part_at 0 l n (length l - n) k g))
