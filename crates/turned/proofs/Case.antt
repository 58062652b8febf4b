-- Of a case and the same on its side: partners are permitted together, so the answers are the same; the lists hold exchanged samples; a table that is
-- transposed is the table of the exchanged places. Assumes nothing.
use mathlib.Core.Path.{◌≡◌, refl, sym, ap, ap₂, ◌∙◌}
use mathlib.Core.Bool.{Bool, true, cond}
use mathlib.Core.List.{List, [], ◌∷◌, ◌++◌}
use Prim.Native.Nat.{ℕ, zero, suc, ◌+◌, ◌-◌, ◌*◌, ◌/◌, ◌%◌}
use native.Mathlib.Omega.{arith}
use lib.Arith.{digits_div, digits_mod, digits_lt}
use lib.Dec.{eqb, leb}
use lib.ListN.{length, get_or, take, replicate, length-append, get_or-replicate, get_or-append}
use lib.Seq.{get_or-take, length-take-le}
use borrow.Author.Tests.{eq-eqb}
use Rattle.laws.specs.Answer.{◌unless◌, answer, written}
use Rattle.laws.specs.Table.{block_of}
use Rattle.laws.proofs.Answers.{passes}
use Rattle.laws.proofs.Blocks.{block_same}
use Rattle.laws.proofs.Tables.{get_d_table, length_table, table_const}
use Rattle.basics.specs.Near.{Near, near}
use Rattle.basics.proofs.Near.{near_above, near_left}
use Rattle.turned.specs.Case.{Case, Sized, turned_case, transposed, permitted_for, lent_answer, array_answer, case_sample, lent_block, array_block}
use Rattle.turned.specs.Exchange.{partners, Exchanged, row_above, Transposes}
use Rattle.turned.proofs.Exchange.{one_of_six, permitted_on_side}

-- ---- blocks on their side
transposed_block : (n : ℕ) (f : ℕ → ℕ → ℕ) → transposed n (block_of n f) ≡ block_of n (λ x y. f y x)
transposed_block n f =
    block_same n _ _ (λ x y hx hy. get_d_table 0 (n * n) (λ k. f (k % n) (k / n)) (x * n + y) (digits_lt hx hy) ∙ ap₂ f (digits_mod x hy) (digits_div x hy))

transposed_zeros : (n : ℕ) → transposed n (replicate (n * n) 0) ≡ replicate (n * n) 0
transposed_zeros n =
    block_same n _ (λ x y. 0) (λ x y hx hy. get_or-replicate (n * n) (x * n + y) 0 0 (digits_lt hx hy)) ∙ table_const (n * n) 0

length_transposed : (n : ℕ) (block : List ℕ) → length (transposed n block) ≡ n * n
length_transposed n block = length_table 0 (n * n) _

-- ---- a case on its side
-- partners are modes both
known : (m m' : ℕ) → partners m m' ≡ true → leb m' 8 ≡ leb m 8
known m m' pair = one_of_six (λ m m'. leb m' 8 ≡ leb m 8) m m' pair refl refl refl refl refl refl

module _ (n : ℕ) (c : Case) (m' : ℕ) (right : List ℕ) where
  abbrev other : Case
  other = turned_case n m' right c

  pub same_array : partners c.mode m' ≡ true → array_answer other ≡ array_answer c
  same_array pair =
      ap₂ (λ k p. answer (6 unless k ∷ 7 unless p ∷ [])) (known c.mode m' pair)
      (permitted_on_side c.mode m' pair c.avail_top c.avail_left c.avail_corner)

  module _ (sized : Sized n c) where
    lefts_other : length (take n c.top) ≡ n
    lefts_other = length-take-le n c.top (omega (arith, sized.tops))

    sized_other : length right ≡ n → Sized n other
    sized_other r = record { tops = length-append c.left right ∙ omega (arith, sized.lefts); lefts = lefts_other }

    exchanged : Exchanged n c.avail_top c.avail_left c.avail_corner
        (near c.top c.left c.corner) (near (c.left ++ right) (take n c.top) c.corner)
    unfolding near
    exchanged = record {
      to_left = λ _ i some h.
          sym (near_left (c.left ++ right) (take n c.top) c.corner (i - 1) i (omega arith))
          ∙ get_or-take n c.top (i - 1) 0 (omega arith)
          ∙ near_above c.top c.left c.corner (i - 1) i (omega arith);
      to_above = λ _ i some h.
          sym (near_above (c.left ++ right) (take n c.top) c.corner (i - 1) i (omega arith))
          ∙ get_or-append c.left right 0 (i - 1) (omega (arith, sized.lefts))
          ∙ near_left c.top c.left c.corner (i - 1) i (omega arith);
      same_corner = λ _. refl;
    }

-- ---- answers
-- where the lists have their lengths, what is lent decides, and then the array form's rules
sized_answer : (n : ℕ) (c : Case) (lent : ℕ) → Sized n c → lent_answer n c lent ≡ cond (eqb lent (n * n)) (array_answer c) 2
sized_answer n c lent s = rw (eq-eqb (length c.top) (2 * n) s.tops, eq-eqb (length c.left) n s.lefts)

-- an answer 0 says that the mode is permitted
accepted : (c : Case) → array_answer c ≡ 0 → permitted_for c c.mode ≡ true
accepted c e = (passes 6 (permitted_for c c.mode) [] (passes 5 (leb c.mode 8) (7 unless permitted_for c c.mode ∷ []) e).1).0

-- ---- the calls
module _ (n : ℕ) (pred : ℕ → Bool → Bool → Bool → Near → ℕ → ℕ → ℕ) (Asks : (ℕ → ℕ) → Type 0)
    (asked : (top left : List ℕ) (corner : ℕ) → Asks (λ k. get_or top k 0) → Asks (row_above (near top left corner)))
    (transpose : (m m' : ℕ) → partners m m' ≡ true → Transposes n pred Asks Asks m m')
    (c : Case) (m' : ℕ) (right : List ℕ) (pair : partners c.mode m' ≡ true) (sized : Sized n c) where
  pub same_lent : (lent : ℕ) → length right ≡ n → lent_answer n (other n c m' right) lent ≡ lent_answer n c lent
  same_lent lent r =
      sized_answer n (other n c m' right) lent (sized_other n c m' right sized r)
      ∙ ap (λ r. cond (eqb lent (n * n)) r 2) (same_array n c m' right pair)
      ∙ sym (sized_answer n c lent sized)

  module _ (ask : c.avail_top ≡ true → Asks (λ k. get_or c.top k 0)) (ask' : c.avail_left ≡ true → Asks (λ k. get_or (c.left ++ right) k 0)) where
    -- an accepted block
    turned_block : array_answer c ≡ 0 → block_of n (case_sample n pred (other n c m' right)) ≡ transposed n (block_of n (case_sample n pred c))
    turned_block e =
        let ok = accepted c e in
        let ok' = accepted (other n c m' right) (same_array n c m' right pair ∙ e) in
        block_same n _ _ (λ x y hx hy.
        transpose c.mode m' pair _ _ _ _ _ ok ok' (exchanged n c m' right sized)
        (λ h. asked c.top c.left c.corner (ask h)) (λ h. asked (c.left ++ right) (take n c.top) c.corner (ask' h)) y x hy hx)
        ∙ sym (transposed_block n (case_sample n pred c))

    -- and one that is refused
    either_way : (r r' : ℕ) (old old' : List ℕ) → r' ≡ r → r ≡ array_answer c → old' ≡ transposed n old
        → written r' old' (block_of n (case_sample n pred (other n c m' right))) ≡ transposed n (written r old (block_of n (case_sample n pred c)))
    either_way zero r' old old' same is o = rw same (turned_block (sym is))
    either_way (suc r) r' old old' same is o = rw same o

    pub turned_lent : (out : List ℕ) → length right ≡ n → length out ≡ n * n
        → lent_block n pred (other n c m' right) (transposed n out) ≡ transposed n (lent_block n pred c out)
    turned_lent out r e =
        either_way _ _ out (transposed n out)
        (ap (lent_answer n (other n c m' right)) (length_transposed n out ∙ sym e) ∙ same_lent (length out) r)
        (sized_answer n c (length out) sized ∙ rw (eq-eqb (length out) (n * n) e)) refl

    pub turned_array : array_block n pred (other n c m' right) ≡ transposed n (array_block n pred c)
    turned_array = either_way _ _ (replicate (n * n) 0) (replicate (n * n) 0) (same_array n c m' right pair) refl (sym (transposed_zeros n))
