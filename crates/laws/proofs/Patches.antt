-- What a patched list holds. Assumes nothing.
use mathlib.Core.Path.{◌≡◌, refl, sym, ap, ap₂, ◌∙◌}
use mathlib.Core.Bool.{Bool, true, false, cond, ◌&&◌}
use mathlib.Core.List.{List, [], ◌∷◌, ◌++◌}
use Prim.Native.Nat.{ℕ, zero, suc, ◌+◌, ◌-◌, ◌<◌, ◌≤◌}
use native.Mathlib.Nat.{not-suc-le-zero, le_of_suc-le-suc, zero-add, add-zero, suc-add, add-suc}
use native.Mathlib.Omega.{arith}
use mathlib.Core.Logic.{◌≢◌}
use native.Mathlib.Decide.{ℕ_discrete, dec_lt}
use borrow.Author.Tests.{lt-ltb, le-ltb, le-leb, lt-leb}
use borrow.Rule.Slice.PartMut.{put_mid, mid_of, post_of, same_len_mid}
use lib.Dec.{T, ltb, leb}
use lib.ListN.{length, get_or, set, take, drop, length-set, length-take, length-drop, get_or-append, get_or-eq_default}
use lib.Seq.{ext_get_or, get_or-set_same, get_or-set_other, get_or-take, get_or-drop, get_or-append-add, length-take-le}
use Rattle.laws.specs.Patch.{patch_from, patch}
use Rattle.laws.proofs.Tests.{ltb_next}

length_from : (there : ℕ → Bool) (new : ℕ → ℕ) (k : ℕ) (l : List ℕ) → length (patch_from there new k l) ≡ length l
length_from there new k [] = refl
length_from there new k (x ∷ l) = ap suc (length_from there new (suc k) l)

pub length_patch : (there : ℕ → Bool) (new : ℕ → ℕ) (l : List ℕ) → length (patch there new l) ≡ length l
unfolding patch
length_patch there new l = length_from there new 0 l

from : (there : ℕ → Bool) (new : ℕ → ℕ) (k : ℕ) (l : List ℕ) (i : ℕ) → i < length l
    → get_or (patch_from there new k l) i 0 ≡ cond (there (k + i)) (new (k + i)) (get_or l i 0)
from there new k [] i h = absurd (not-suc-le-zero h)
from there new k (x ∷ l) zero h = rw (add-zero k)
from there new k (x ∷ l) (suc i) h = rw (add-suc k i, ← suc-add k i) (from there new (suc k) l i (le_of_suc-le-suc h))

pub get_d_patch : (there : ℕ → Bool) (new : ℕ → ℕ) (l : List ℕ) (i : ℕ) → i < length l → get_or (patch there new l) i 0 ≡ cond (there i) (new i) (get_or l i 0)
unfolding patch
get_d_patch there new l i h = rw zero-add at (from there new 0 l i h)

-- outside it keeps what it held, at every index; inside it holds what is put there
pub patch_other : (there : ℕ → Bool) (new : ℕ → ℕ) (l : List ℕ) (i : ℕ) → ¬ T (there i) → get_or (patch there new l) i 0 ≡ get_or l i 0
patch_other there new l i out = go (dec_lt i (length l))
  where
    pick : (b : Bool) (x y : ℕ) → ¬ T b → cond b x y ≡ y
    pick true x y t = absurd (t tt)
    pick false x y t = refl

    go : Dec (i < length l) → get_or (patch there new l) i 0 ≡ get_or l i 0
    go (yes h) = get_d_patch there new l i h ∙ pick (there i) (new i) (get_or l i 0) out
    go (no h) = get_or-eq_default (patch there new l) 0 (omega (arith, length_patch there new l)) ∙ sym (get_or-eq_default l 0 (omega arith))

pub patch_here : (there : ℕ → Bool) (new : ℕ → ℕ) (l : List ℕ) (i : ℕ) → i < length l → T (there i) → get_or (patch there new l) i 0 ≡ new i
patch_here there new l i h t = get_d_patch there new l i h ∙ pick (there i) (new i) (get_or l i 0) t
  where
    pick : (b : Bool) (x y : ℕ) → T b → cond b x y ≡ x
    pick true x y t = refl
    pick false x y t = absurd t

-- the way to show that a list is a patched one
pub patch_is : (there : ℕ → Bool) (new : ℕ → ℕ) (l l' : List ℕ) → length l' ≡ length l
    → ((i : ℕ) → i < length l → get_or l' i 0 ≡ cond (there i) (new i) (get_or l i 0)) → l' ≡ patch there new l
patch_is there new l l' e f =
    ext_get_or 0 l' (patch there new l) (e ∙ sym (length_patch there new l))
    (λ i h. f i (omega (arith, e)) ∙ sym (get_d_patch there new l i (omega (arith, e))))

-- ---- patches grow: by one store, and by a patch of a part

pub patch_none : (there : ℕ → Bool) (new : ℕ → ℕ) (l : List ℕ) → ((i : ℕ) → there i ≡ false) → l ≡ patch there new l
patch_none there new l f = patch_is there new l l refl (λ i h. rw (f i))

pub patch_set : (there there' : ℕ → Bool) (new : ℕ → ℕ) (l : List ℕ) (c : ℕ) → c < length l → there' c ≡ true → ((i : ℕ) → i ≢ c → there i ≡ there' i)
    → set (patch there new l) c (new c) ≡ patch there' new l
patch_set there there' new l c h e f = patch_is there' new l (set (patch there new l) c (new c)) (length-set (patch there new l) c (new c) ∙ length_patch there new l) (λ i k. go i k (ℕ_discrete i c))
  where
    go : (i : ℕ) → i < length l → Dec (i ≡ c) → get_or (set (patch there new l) c (new c)) i 0 ≡ cond (there' i) (new i) (get_or l i 0)
    go i k (yes q) = rw (q, e) (get_or-set_same (patch there new l) c (new c) 0 (omega (arith, length_patch there new l)))
    go i k (no q) = get_or-set_other (patch there new l) c i (new c) 0 q ∙ get_d_patch there new l i k ∙ ap (λ b. cond b (new i) (get_or l i 0)) (f i q)

-- a front: the first c places are put
abbrev pub front : (ℕ → ℕ) → ℕ → List ℕ → List ℕ
front f c l = patch (λ i. ltb i c) f l

pub front_none : (f : ℕ → ℕ) (l : List ℕ) → l ≡ front f 0 l
front_none f l = patch_none (λ i. ltb i 0) f l (λ i. le-ltb i 0 (omega arith))

pub front_more : (f : ℕ → ℕ) (c v : ℕ) (l l' : List ℕ) → c < length l → v ≡ f c → l' ≡ front f c l → set l' c v ≡ front f (c + 1) l
front_more f c v l l' h e g =
    ap₂ (λ x y. set x c y) g e ∙ patch_set (λ i. ltb i c) (λ i. ltb i (c + 1)) f l c h (lt-ltb c (c + 1) (omega arith)) (λ i q. ltb_next i c q)

-- the same with the next number given: for places that are written out one after the other
pub front_next : (c m : ℕ) (f : ℕ → ℕ) (l : List ℕ) {l' : List ℕ} {v : ℕ} → m ≡ c + 1 → c < length l → l' ≡ front f c l → v ≡ f c → set l' c v ≡ front f m l
front_next c m f l {l'} {v} e h p q = rw e (front_more f c v l l' h q p)

pub length_front : (f : ℕ → ℕ) (c : ℕ) (l l' : List ℕ) → l' ≡ front f c l → length l' ≡ length l
length_front f c l l' e = ap length e ∙ length_patch (λ i. ltb i c) f l

-- a patch over a patch
pub patch_grow : (t₁ t₂ t₃ : ℕ → Bool) (f f₂ : ℕ → ℕ) (l : List ℕ) → ((i : ℕ) → t₂ i ≡ true → (t₃ i ≡ true) × (f₂ i ≡ f i)) → ((i : ℕ) → t₂ i ≡ false → t₁ i ≡ t₃ i)
    → patch t₂ f₂ (patch t₁ f l) ≡ patch t₃ f l
patch_grow t₁ t₂ t₃ f f₂ l hit miss =
    patch_is t₃ f l (patch t₂ f₂ (patch t₁ f l)) (length_patch t₂ f₂ (patch t₁ f l) ∙ length_patch t₁ f l)
    (λ i h. get_d_patch t₂ f₂ (patch t₁ f l) i (omega (arith, length_patch t₁ f l)) ∙ ap (cond (t₂ i) (f₂ i)) (get_d_patch t₁ f l i h) ∙ go i (t₂ i) refl)
  where
    go : (i : ℕ) (b : Bool) → t₂ i ≡ b → cond b (f₂ i) (cond (t₁ i) (f i) (get_or l i 0)) ≡ cond (t₃ i) (f i) (get_or l i 0)
    go i true e = rw (hit i e).0 (hit i e).1
    go i false e = rw (miss i e)

-- a patch of the part from a on, put back, is a patch of the whole
pub put_patch : (a : ℕ) (t : ℕ → Bool) (f : ℕ → ℕ) (l : List ℕ) → a ≤ length l
    → put_mid a (length l - a) l (patch t f (mid_of a (length l - a) l)) ≡ patch (λ i. leb a i && t (i - a)) (λ i. f (i - a)) l
put_patch a t f l h =
    patch_is (λ i. leb a i && t (i - a)) (λ i. f (i - a)) l (put_mid a k l ys) (same_len_mid a k l ys (length_patch t f (mid_of a k l))) (λ i hi. go i hi (dec_lt i a))
  where
    k : ℕ
    k = length l - a

    ys : List ℕ
    ys = patch t f (mid_of a k l)

    long : length ys ≡ length l - a
    long = length_patch t f (mid_of a k l) ∙ mid_len_from
      where
        mid_len_from : length (mid_of a (length l - a) l) ≡ length l - a
        mid_len_from = simp (length-take, length-drop) (omega arith)

    go : (i : ℕ) → i < length l → Dec (i < a) → get_or (put_mid a k l ys) i 0 ≡ cond (leb a i && t (i - a)) (f (i - a)) (get_or l i 0)
    go i hi (yes q) =
        get_or-append (take a l) (ys ++ post_of a k l) 0 i (rw (length-take-le a l h) q) ∙ get_or-take a l i 0 q ∙ rw (lt-leb a i q)
    go i hi (no q) =
        let e : i ≡ length (take a l) + (i - a) = omega (arith, length-take-le a l h) in
        let j : i - a < length ys = omega (arith, long) in
        let b : a + (i - a) ≡ i = omega arith in
        ap (λ n. get_or (put_mid a k l ys) n 0) e ∙ get_or-append-add (take a l) (ys ++ post_of a k l) (i - a) 0
        ∙ get_or-append ys (post_of a k l) 0 (i - a) j
        ∙ get_d_patch t f (mid_of a k l) (i - a) (omega (arith, long, length_patch t f (mid_of a k l)))
        ∙ ap (cond (t (i - a)) (f (i - a))) (get_or-take k (drop a l) (i - a) 0 (omega arith) ∙ get_or-drop a l (i - a) 0 ∙ ap (λ n. get_or l n 0) b)
        ∙ rw (le-leb a i (omega arith))

-- patches that put the same at the same places
pub patch_same : (t u : ℕ → Bool) (f h : ℕ → ℕ) (l : List ℕ) → ((i : ℕ) → t i ≡ u i) → ((i : ℕ) → T (t i) → f i ≡ h i) → patch t f l ≡ patch u h l
patch_same t u f h l e v =
    ext_get_or 0 (patch t f l) (patch u h l) (length_patch t f l ∙ sym (length_patch u h l))
    (λ i k. let k' : i < length l = omega (arith, length_patch t f l) in
    get_d_patch t f l i k' ∙ go (t i) (f i) (h i) (get_or l i 0) (v i) ∙ ap (λ b. cond b (h i) (get_or l i 0)) (e i) ∙ sym (get_d_patch u h l i k'))
  where
    go : (b : Bool) (x y z : ℕ) → (T b → x ≡ y) → cond b x z ≡ cond b y z
    go true x y z q = q tt
    go false x y z q = refl
