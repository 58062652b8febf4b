-- A list taken n numbers at a time, each block put through the part of another list from its first place on. Assumes nothing.
use mathlib.Core.Path.{◌≡◌, sym, ap, ap₂, ◌∙◌}
use mathlib.Core.Bool.{Bool, ◌&&◌}
use mathlib.Core.List.{List, ◌++◌}
use Prim.Native.Nat.{ℕ, ◌+◌, ◌*◌, ◌-◌, ◌/◌, ◌%◌, ◌<◌, ◌≤◌}
use native.Mathlib.Nat.{div-add-mod, div-add-mod', div-lt_iff_lt-mul, div_self, mod-lt, mul_comm, mul-zero, mul-suc, zero-add}
use native.Mathlib.Numerals.{add-one}
use native.Mathlib.Omega.{arith}
use borrow.Rule.Slice.PartMut.{put_mid, mid_of}
use lib.Arith.{digits_div, digits_mod}
use lib.IntN.{ℤ, pos}
use lib.ListN.{length, drop}
use lib.Seq.{ext_get_or}
use Rattle.laws.specs.Range.{at}
use Rattle.laws.specs.Table.{table, onto, blockwise, all_below, all_blocks}
use Rattle.laws.proofs.Ontos.{onto_long, onto_row}
use Rattle.laws.proofs.Stretches.{part_at}
use Rattle.laws.proofs.Tables.{length_table, get_d_table, table_same}
use Rattle.laws.proofs.Tests.{all_next}

-- f makes n numbers of a list, from its first n numbers alone
pub record OfBlock (n : ℕ) (f : List ℤ → List ℤ) : Type 0 where
  pub long : (d : List ℤ) → length (f d) ≡ n
  pub same : (d d' : List ℤ) → ((k : ℕ) → k < n → at d k ≡ at d' k) → f d ≡ f d'

-- number i of what f makes of each n numbers of a list
abbrev pub block_at : ℕ → (List ℤ → List ℤ) → List ℤ → ℕ → ℤ
block_at n f l i = at (f (table n (λ k. at l (i / n * n + k)))) (i % n)

-- number k of block b
block_at_is : (n b i : ℕ) (f : List ℤ → List ℤ) (l : List ℤ) → i < n → block_at n f l (n * b + i) ≡ at (f (table n (λ k. at l (n * b + k)))) i
block_at_is n b i f l h =
    let c : n * b + i ≡ b * n + i = ap (λ m. m + i) (mul_comm n b) in
    let d : (n * b + i) / n * n ≡ n * b = ap (λ m. m / n * n) c ∙ ap (λ m. m * n) (digits_div b h) ∙ mul_comm b n in
    let r : (n * b + i) % n ≡ i = ap (λ m. m % n) c ∙ digits_mod b h in
    ap₂ (λ (x y : ℕ). at (f (table n (λ k. at l (x + k)))) y) d r

pub blockwise_at : (n b i : ℕ) (f : List ℤ → List ℤ) (l : List ℤ) → i < n → n * b + i < length l
    → at (blockwise n f l) (n * b + i) ≡ at (f (table n (λ k. at l (n * b + k)))) i
blockwise_at n b i f l h g = get_d_table (pos 0) (length l) (block_at n f l) (n * b + i) g ∙ block_at_is n b i f l h

-- each number of a list of whole blocks stands in one of them
pub number_in : (n : ℕ) (l : List ℤ) (k : ℕ) → 0 < n → length l % n ≡ 0 → k < length l
    → (k / n < length l / n) × (at l k ≡ at (table n (λ i. at l (n * (k / n) + i))) (k % n))
number_in n l k some whole h = (
  (div-lt_iff_lt-mul some).1 (omega (arith, h, whole, div-add-mod' (length l) n)),
  sym (get_d_table (pos 0) n (λ i. at l (n * (k / n) + i)) (k % n) (mod-lt k some) ∙ ap (at l) (div-add-mod k n)),
)

module _ (n : ℕ) (f : List ℤ → List ℤ) (F : OfBlock n f) where
  -- what f makes, number by number
  pub itself : (d : List ℤ) → table n (at (f d)) ≡ f d
  itself d =
      ext_get_or (pos 0) (table n (at (f d))) (f d) (length_table (pos 0) n (at (f d)) ∙ sym (F.long d))
      (λ i b. get_d_table (pos 0) n (at (f d)) i (omega (arith, length_table (pos 0) n (at (f d)))))

  -- one block is all of a list of n
  pub block_alone : (l : List ℤ) → length l ≡ n → blockwise n f l ≡ f l
  block_alone l e =
      ap (λ m. table m (block_at n f l)) e
      ∙ table_same n (block_at n f l) (at (f l)) (λ i h.
      let z : (k : ℕ) → n * 0 + k ≡ k = λ k. ap (λ m. m + k) (mul-zero n) ∙ zero-add k in
      ap (block_at n f l) (sym (z i)) ∙ block_at_is n 0 i f l h
      ∙ ap (λ t. at t i) (F.same (table n (λ k. at l (n * 0 + k))) l (λ k g. get_d_table (pos 0) n (λ k. at l (n * 0 + k)) k g ∙ ap (at l) (z k))))
      ∙ itself l

  -- `out` with the first b blocks of a list put: the next is put through the part of it from its first place on
  module _ (b : ℕ) (l out out' : List ℤ) (e : out' ≡ onto (n * b) (block_at n f l) out) (room : n * b + n ≤ length l) (long : length out ≡ length l) where
    abbrev part : List ℤ
    part = mid_of (n * b) (length l - n * b) l

    pub kept : length out' ≡ length out
    kept = onto_long (n * b) (block_at n f l) out out' (omega arith) e

    pub block_at_lem : (k : ℕ) → k < n → at part k ≡ at l (n * b + k)
    block_at_lem k h = part_at (pos 0) l (n * b) (length l - n * b) k (omega arith)

    pub block_more : (ys : List ℤ) → ys ≡ f part ++ drop n (mid_of (n * b) (length out' - n * b) out')
        → put_mid (n * b) (length out' - n * b) out' ys ≡ onto (n * (b + 1)) (block_at n f l) out
    block_more ys g =
        let m : n * b + n ≡ n * (b + 1) = sym (ap (λ k. n * k) (add-one b) ∙ mul-suc n b) in
        onto_row (n * b) n (block_at n f l) (at (f part)) out out' ys (omega arith) e (g ∙ ap (λ t. t ++ drop n (mid_of (n * b) (length out' - n * b) out')) (sym (itself part))) same
        ∙ ap (λ k. onto k (block_at n f l) out) m
      where
        same : (i : ℕ) → i < n → at (f part) i ≡ block_at n f l (n * b + i)
        same i h =
            ap (λ t. at t i) (F.same part (table n (λ k. at l (n * b + k))) (λ k h. block_at_lem k h ∙ sym (get_d_table (pos 0) n (λ k. at l (n * b + k)) k h)))
            ∙ sym (block_at_is n b i f l h)

-- ---- a test that reads the first n numbers of a list alone
pub record TestOfBlock (n : ℕ) (p : List ℤ → Bool) : Type 0 where
  pub same : (d d' : List ℤ) → ((k : ℕ) → k < n → at d k ≡ at d' k) → p d ≡ p d'

-- that test of block b of a list
abbrev pub test_at : ℕ → (List ℤ → Bool) → List ℤ → ℕ → Bool
test_at n p l b = p (table n (λ k. at l (n * b + k)))

module _ (n : ℕ) (p : List ℤ → Bool) (P : TestOfBlock n p) (l : List ℤ) where
  test_from : (b : ℕ) (d : List ℤ) → ((k : ℕ) → k < n → at d k ≡ at l (n * b + k)) → p d ≡ test_at n p l b
  test_from b d h = P.same d (table n (λ k. at l (n * b + k))) (λ k g. h k g ∙ sym (get_d_table (pos 0) n (λ k. at l (n * b + k)) k g))

  -- how a loop goes on to block b, through the part of the list from its first place on
  pub test_next : (b : ℕ) (t : Bool) → n * b + n ≤ length l → t ≡ all_below b (test_at n p l) → t && p (mid_of (n * b) (length l - n * b) l) ≡ all_below (b + 1) (test_at n p l)
  test_next b t room e =
      ap₂ ◌&&◌ e (test_from b (mid_of (n * b) (length l - n * b) l) (λ k h. part_at (pos 0) l (n * b) (length l - n * b) k (omega arith)))
      ∙ all_next b (test_at n p l)

  -- one block is all of a list of n
  pub test_alone : length l ≡ n → 0 < n → all_blocks n p l ≡ p l
  unfolding all_below
  test_alone e h =
      let one : length l / n ≡ 1 = ap (λ m. m / n) e ∙ div_self h in
      ap (λ m. all_below m (test_at n p l)) one
      ∙ sym (test_from 0 l (λ k _. ap (at l) (sym (ap (λ m. m + k) (mul-zero n) ∙ zero-add k))))
