-- A stretch of a list that a loop puts anew, one place a turn. Assumes nothing.
use mathlib.Core.Path.{◌≡◌, ap, ap₂, ◌∙◌}
use mathlib.Core.Bool.{false, ◌&&◌}
use mathlib.Core.List.{List}
use Prim.Native.Nat.{ℕ, ◌+◌, ◌<◌, ◌≤◌}
use native.Mathlib.Decide.{dec_lt}
use native.Mathlib.Omega.{arith}
use borrow.Author.Tests.{lt-ltb, le-ltb, le-leb, lt-leb}
use lib.Dec.{ltb, leb, lt→ltb, leb→le, le→leb}
use lib.ListN.{length, get_or, set, take, drop}
use lib.Seq.{get_or-take, get_or-drop}
use Rattle.laws.specs.Patch.{patch}
use Rattle.laws.specs.Table.{table}
use Rattle.laws.proofs.Patches.{length_patch, patch_none, patch_set, patch_other, patch_here}
use Rattle.laws.proofs.Tables.{filled_all}
use Rattle.laws.proofs.Tests.{and_of, and_no, both_left, both_of, ltb_next}

-- the places from a to c are put
abbrev pub stretch : (ℕ → ℕ) → ℕ → ℕ → List ℕ → List ℕ
stretch f a c l = patch (λ i. leb a i && ltb i c) f l

pub stretch_none : (f : ℕ → ℕ) (a : ℕ) (l : List ℕ) → l ≡ stretch f a a l
stretch_none f a l = patch_none (λ i. leb a i && ltb i a) f l (λ i. go i (dec_lt i a))
  where
    go : (i : ℕ) → Dec (i < a) → leb a i && ltb i a ≡ false
    go i (yes h) = rw (lt-leb a i h)
    go i (no h) = and_no (leb a i) (ltb i a) (le-ltb i a (omega arith))

pub stretch_more : (f : ℕ → ℕ) (a c v : ℕ) (l l' : List ℕ) → a ≤ c → c < length l → v ≡ f c → l' ≡ stretch f a c l → set l' c v ≡ stretch f a (c + 1) l
stretch_more f a c v l l' low h e g =
    ap₂ (λ x y. set x c y) g e
    ∙ patch_set (λ i. leb a i && ltb i c) (λ i. leb a i && ltb i (c + 1)) f l c h (and_of (le-leb a c low) (lt-ltb c (c + 1) (omega arith)))
    (λ i q. ap (λ b. leb a i && b) (ltb_next i c q))

pub length_stretch : (f : ℕ → ℕ) (a c : ℕ) (l l' : List ℕ) → l' ≡ stretch f a c l → length l' ≡ length l
length_stretch f a c l l' e = ap length e ∙ length_patch (λ i. leb a i && ltb i c) f l

-- the first q places and the stretch after them, to the end, make up the whole
pub stretches_are : (q : ℕ) (f g h : ℕ → ℕ) (l l₁ l₂ : List ℕ) → l₁ ≡ stretch f 0 q l → l₂ ≡ stretch g q (length l₁) l₁
    → ((i : ℕ) → i < q → i < length l → f i ≡ h i) → ((i : ℕ) → q ≤ i → i < length l → g i ≡ h i) → l₂ ≡ table (length l) h
stretches_are q f g h l l₁ l₂ e₁ e₂ first rest =
    filled_all 0 h (length l) (length l) l₂ (omega arith) (record { long = length_stretch g q (length l₁) l₁ l₂ e₂ ∙ long; done = λ i b. ap (λ m. get_or m i 0) e₂ ∙ go i b (dec_lt i q) })
  where
    long : length l₁ ≡ length l
    long = length_stretch f 0 q l l₁ e₁

    go : (i : ℕ) → i < length l → Dec (i < q) → get_or (stretch g q (length l₁) l₁) i 0 ≡ h i
    go i b (yes p) =
        patch_other (λ j. leb q j && ltb j (length l₁)) g l₁ i (λ t. let k : q ≤ i = leb→le q i (both_left (leb q i) (ltb i (length l₁)) t) in omega arith)
        ∙ ap (λ m. get_or m i 0) e₁
        ∙ patch_here (λ j. leb 0 j && ltb j q) f l i b (both_of (leb 0 i) (ltb i q) (le→leb 0 i (omega arith)) (lt→ltb i q p))
        ∙ first i p b
    go i b (no p) =
        let k : q ≤ i = omega arith in
        let b₁ : i < length l₁ = omega (arith, long) in
        patch_here (λ j. leb q j && ltb j (length l₁)) g l₁ i b₁ (both_of (leb q i) (ltb i (length l₁)) (le→leb q i k) (lt→ltb i (length l₁) b₁)) ∙ rest i k b

-- ---- what a part of a list holds
pub part_at : {A : Type 0} (d : A) (l : List A) (a n i : ℕ) → i < n → get_or (take n (drop a l)) i d ≡ get_or l (a + i) d
part_at d l a n i h = get_or-take n (drop a l) i d h ∙ get_or-drop a l i d
