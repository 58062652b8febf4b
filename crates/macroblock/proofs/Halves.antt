-- A list that is put in two parts: its first places, and then those after them, each through its own part. Assumes nothing.
use mathlib.Core.Path.{◌≡◌, ap, ◌∙◌}
use mathlib.Core.List.{List, ◌++◌}
use Prim.Native.Nat.{ℕ, ◌+◌, ◌-◌, ◌<◌, ◌≤◌}
use native.Mathlib.Decide.{dec_lt}
use native.Mathlib.Omega.{arith}
use borrow.Rule.Slice.PartMut.{put_mid, mid_of, post_of, same_len_mid}
use lib.ListN.{length, get_or, take, drop, length-append, length-take, length-drop, get_or-append}
use lib.Seq.{get_or-take, get_or-append-add}
use Rattle.laws.specs.Table.{table}
use Rattle.laws.proofs.Tables.{Filled, filled_all}

module _ {A : Type 0} (z : A) (n : ℕ) (xs out ys : List A) (long : length xs ≡ n) (k : ℕ) where
  abbrev pub halves : List A
  halves = put_mid n k (xs ++ drop n out) ys

  head : length (take n (xs ++ drop n out)) ≡ n
  head = length-take n (xs ++ drop n out) ∙ omega (arith, length-append xs (drop n out))

  pub early : (i : ℕ) → i < n → get_or halves i z ≡ get_or xs i z
  early i h =
      get_or-append (take n (xs ++ drop n out)) (ys ++ post_of n k (xs ++ drop n out)) z i (omega (arith, head))
      ∙ get_or-take n (xs ++ drop n out) i z h ∙ get_or-append xs (drop n out) z i (omega arith)

  pub late : (i j : ℕ) → i ≡ n + j → j < length ys → get_or halves i z ≡ get_or ys j z
  late i j e h =
      let at_j : i ≡ length (take n (xs ++ drop n out)) + j = omega (arith, head) in
      ap (λ m. get_or halves m z) at_j ∙ get_or-append-add (take n (xs ++ drop n out)) (ys ++ post_of n k (xs ++ drop n out)) j z
      ∙ get_or-append ys (post_of n k (xs ++ drop n out)) z j h

-- a list of w places whose first n are put already, and the others through their own part
pub rest_put : (n w : ℕ) (h : ℕ → ℕ) (l ys : List ℕ) → Filled 0 h w n l → n ≤ w → length ys ≡ length (mid_of n (length l - n) l)
    → ((j : ℕ) → j < length ys → n + j < w → get_or ys j 0 ≡ h (n + j)) → put_mid n (length l - n) l ys ≡ table w h
rest_put n w h l ys F le back same =
    filled_all 0 h w w (put_mid n (length l - n) l ys) (omega arith)
    (record { long = same_len_mid n (length l - n) l ys back ∙ F.long; done = λ i b. go i b (dec_lt i n) })
  where
    front : length (take n l) ≡ n
    front = length-take n l ∙ omega (arith, F.long)

    rest : length ys ≡ w - n
    rest = back ∙ (let e : length (mid_of n (length l - n) l) ≡ w - n = simp (length-take, length-drop) (omega (arith, F.long)) in e)

    go : (i : ℕ) → i < w → Dec (i < n) → get_or (put_mid n (length l - n) l ys) i 0 ≡ h i
    go i b (yes p) =
        get_or-append (take n l) (ys ++ post_of n (length l - n) l) 0 i (omega (arith, front)) ∙ get_or-take n l i 0 p ∙ F.done i p
    go i b (no p) =
        let e : i ≡ length (take n l) + (i - n) = omega (arith, front) in
        let f : n + (i - n) ≡ i = omega arith in
        ap (λ m. get_or (put_mid n (length l - n) l ys) m 0) e ∙ get_or-append-add (take n l) (ys ++ post_of n (length l - n) l) (i - n) 0
        ∙ get_or-append ys (post_of n (length l - n) l) 0 (i - n) (omega (arith, rest)) ∙ same (i - n) (omega (arith, rest)) (omega arith) ∙ ap h f
