-- How many pass from the left without a gap: all before are passed and the next is not, and nothing else is so. Assumes nothing.
use mathlib.Core.Path.{◌≡◌, refl, sym, ap, ap₂, subst, ◌∙◌}
use mathlib.Core.Bool.{Bool, true, false, cond, ◌&&◌}
use mathlib.Core.List.{List, [], ◌∷◌, ◌++◌}
use Prim.Native.Nat.{ℕ, zero, suc, ◌+◌, ◌*◌, ◌<◌, ◌≤◌, zero-le}
use native.Mathlib.Nat.{not-suc-le-zero, mul-zero, mul-suc, mul-le-mul_right, suc-mul}
use native.Mathlib.Decide.{dec_lt}
use native.Mathlib.Omega.{arith}
use lib.ListN.{get_or, length, take, drop}
use Rattle.std.specs.List.{fold, list_all, prefix_len}
use Rattle.std.specs.Simd.{first_chunks}
use Rattle.std.proofs.Common.{take-append-drop, take_all, length-take-le, length-drop, drop-drop, get_or-take, get_or-drop}
use Rattle.std.proofs.lemmas.List.Folds.{list_all_more}
use native.Mathlib.Numerals.{add-one}
use Rattle.laws.specs.Table.{all_below}
use Rattle.std.proofs.Math.Nat.{mul-add, mul-one}
use Rattle.laws.proofs.Tests.{not_both, and_both, and_assoc, all_none, all_next}
use Rattle.maps.specs.Done.{is_done}
use Rattle.maps.specs.Size.{total, address, Size}
use Rattle.turn_list.specs.Turn.{leading, gapless}
use Rattle.turn_list.specs.inner.Rows.{is_one, Fitting}

pub record Leads (n : ℕ) (f : ℕ → Bool) (k : ℕ) : Type 0 where
  pub most : k ≤ n
  pub all : (i : ℕ) → i < k → f i ≡ true
  pub stop : k < n → f k ≡ false

pub leading_is : (n : ℕ) (f : ℕ → Bool) → Leads n f (leading n f)
unfolding leading
leading_is zero f = record { most = zero-le; all = λ i h. absurd (not-suc-le-zero h); stop = λ h. absurd (not-suc-le-zero h) }
leading_is (suc n) f = go (f 0) refl (leading_is n (λ k. f (suc k)))
  where
    go : (b : Bool) → f 0 ≡ b → Leads n (λ k. f (suc k)) (leading n (λ k. f (suc k))) → Leads (suc n) f (cond b (suc (leading n (λ k. f (suc k)))) 0)
    go true e l = record { most = omega (arith, l.most); all = all; stop = λ h. l.stop (omega arith) }
      where
        all : (i : ℕ) → i < suc (leading n (λ k. f (suc k))) → f i ≡ true
        all zero h = e
        all (suc i) h = l.all i (omega arith)
    go false e l = record { most = zero-le; all = λ i h. absurd (not-suc-le-zero h); stop = λ h. e }

-- nothing else is
pub leads_same : (n : ℕ) (f : ℕ → Bool) (j k : ℕ) → Leads n f j → Leads n f k → j ≡ k
leads_same n f j k p q = go (dec_lt j k) (dec_lt k j)
  where
    go : Dec (j < k) → Dec (k < j) → j ≡ k
    go (yes l) m = absurd (not_both (q.all j l) (p.stop (omega (arith, q.most))))
    go (no l) (yes m) = absurd (not_both (p.all k m) (q.stop (omega (arith, p.most))))
    go (no l) (no m) = omega arith

-- ---- a row of the done map
abbrev pub done_at : (w : ℕ) → List ℕ → (y x : ℕ) → Bool
done_at w done y x = is_done done (address w x y)

pub gapless_is : (w : ℕ) (done : List ℕ) (y : ℕ) → Leads w (done_at w done y) (gapless w done y)
unfolding gapless
gapless_is w done y = leading_is w (done_at w done y)

-- ---- counts of lists, in the words of std
-- how many lead by their places are as many as lead in the list
leading_list : (l : List ℕ) → leading (length l) (λ i. is_one (get_or l i 0)) ≡ prefix_len is_one l
unfolding leading
leading_list [] = refl
leading_list (x ∷ l) = ap (λ n. cond (is_one x) (suc n) 0) (leading_list l) ∙ ap (λ n. cond (is_one x) n 0) (one_more (prefix_len is_one l))
  where
    one_more : (n : ℕ) → suc n ≡ 1 + n
    one_more n = omega arith

leading_same : (n : ℕ) (f g : ℕ → Bool) → ((i : ℕ) → i < n → f i ≡ g i) → leading n f ≡ leading n g
unfolding leading
leading_same zero f g e = refl
leading_same (suc n) f g e =
    ap₂ (λ b k. cond b (suc k) 0) (e 0 (omega arith)) (leading_same n (λ i. f (suc i)) (λ i. g (suc i)) (λ i l. e (suc i) (omega arith)))

-- a row's count is that of its part of the map
pub row_leads : (w : ℕ) (done : List ℕ) (y : ℕ) → y * w + w ≤ length done → prefix_len is_one (take w (drop (y * w) done)) ≡ gapless w done y
unfolding gapless
row_leads w done y h =
    let row : List ℕ = take w (drop (y * w) done) in
    let long : length row ≡ w = length-take-le w (drop (y * w) done) (omega (arith, length-drop (y * w) done)) in
    sym (leading_list row)
    ∙ ap (λ n. leading n (λ i. is_one (get_or row i 0))) long
    ∙ leading_same w _ (done_at w done y) (λ i l. ap is_one (get_or-take w (drop (y * w) done) i 0 l ∙ get_or-drop (y * w) done i 0))

-- a test of every element, taken one after the other
pub and_list : (p : ℕ → Bool) (a : Bool) (l : List ℕ) → fold (λ b x. b && p x) a l ≡ a && list_all p l
and_list p a [] = alone a
  where
    alone : (t : Bool) → t ≡ t && true
    alone true = refl
    alone false = refl
and_list p a (x ∷ l) = and_list p (a && p x) l ∙ and_assoc a (p x) (list_all p l)

-- and by their places
pub all_list : (p : ℕ → Bool) (l : List ℕ) → list_all p l ≡ all_below (length l) (λ i. p (get_or l i 0))
all_list p l = ap (list_all p) (sym (take_all (length l) l (omega arith))) ∙ go (length l) (omega arith)
  where
    go : (n : ℕ) → n ≤ length l → list_all p (take n l) ≡ all_below n (λ i. p (get_or l i 0))
    go zero h = sym (all_none (λ i. p (get_or l i 0)))
    go (suc n) h =
        ap (λ k. list_all p (take k l)) (sym (add-one n)) ∙ list_all_more p l n 0 (omega arith) ∙ ap (λ t. t && p (get_or l n 0)) (go n (omega arith))
        ∙ all_next n (λ i. p (get_or l i 0)) ∙ ap (λ k. all_below k (λ i. p (get_or l i 0))) (add-one n)

prefix_front : (l m : List ℕ) → list_all is_one l ≡ true → prefix_len is_one (l ++ m) ≡ length l + prefix_len is_one m
prefix_front [] m e = omega arith
prefix_front (x ∷ l) m e = let t = and_both (is_one x) (list_all is_one l) e in rw (t.0, prefix_front l m t.1) (omega arith)

prefix_group : (n : ℕ) (l : List ℕ) → n ≤ length l → list_all is_one (take n l) ≡ true → prefix_len is_one l ≡ n + prefix_len is_one (drop n l)
prefix_group n l h e =
    ap (prefix_len is_one) (sym (take-append-drop n l)) ∙ prefix_front (take n l) (drop n l) e ∙ ap (λ m. m + prefix_len is_one (drop n l)) (length-take-le n l h)

-- groups of n that lead, and then those that lead behind them
pub record Groups (n m : ℕ) (l : List ℕ) : Type 0 where
  pub most : n * m ≤ length l
  pub is : prefix_len is_one l ≡ n * m + prefix_len is_one (drop (n * m) l)

pub by_groups : (n k : ℕ) (l : List ℕ) → n * k ≤ length l → Groups n (prefix_len (list_all is_one) (first_chunks n k l)) l
by_groups n zero l h = none n l
  where
    none : (n : ℕ) (l : List ℕ) → Groups n 0 l
    none n l = record { most = omega arith; is = rw mul-zero (omega arith) }
by_groups n (suc k) l h = go (list_all is_one (take n l)) refl (by_groups n k (drop n l) (omega (arith, mul-suc n k, length-drop n l)))
  where
    m : ℕ
    m = prefix_len (list_all is_one) (first_chunks n k (drop n l))

    go : (b : Bool) → list_all is_one (take n l) ≡ b → Groups n m (drop n l) → Groups n (cond b (1 + m) 0) l
    go false e g = record { most = omega arith; is = rw mul-zero (omega arith) }
    go true e g =
        let low : n ≤ length l = omega (arith, mul-suc n k) in
        let more : n * (1 + m) ≡ n + n * m = mul-add n 1 m ∙ omega (arith, mul-one n) in
        record {
          most = omega (arith, g.most, length-drop n l);
          is = prefix_group n l low e ∙ omega (arith, g.is, ap (prefix_len is_one) (drop-drop (n * m) n l ∙ ap (λ k. drop k l) (sym more)));
        }

-- a map with a count for each row
pub fitting : (w h : ℕ) (done rows : List ℕ) → Size w h → length done ≡ total w h → length rows ≡ h → Fitting w done rows
fitting w h done rows s l e = record { size = subst (Size w) (sym e) s; long = l ∙ ap (total w) (sym e) }

-- a row lies in the map
pub row_in : (w y : ℕ) (done rows : List ℕ) → Fitting w done rows → y < length rows → (w ≤ 120) × (y < 68) × (y * w + w ≤ length done)
row_in w y done rows m l = (m.size.most_w, omega (arith, m.size.most_h), omega (arith, m.long, mul-le-mul_right w l, suc-mul y w))
