-- A list taken 64 numbers at a time, where each quad is m blocks of n. Assumes nothing.
use mathlib.Core.Path.{◌≡◌, sym, ap, ap₂, ◌∙◌}
use mathlib.Core.Bool.{Bool, cond, ◌&&◌}
use mathlib.Core.List.{List}
use Prim.Native.Nat.{ℕ, suc, ◌+◌, ◌*◌, ◌/◌, ◌%◌, ◌<◌, ◌≤◌}
use native.Mathlib.Nat.{add-mul, mul-add, zero-mod, div-add-mod, div-lt_iff_lt-mul, mul-add-div, mul-add-mod_self_left, mul-div_cancel_left, mul-le-mul_left, mul-suc, mul_assoc, mul_comm}
use native.Mathlib.Omega.{arith}
use borrow.Author.Tests.{le-leb}
use lib.Dec.{leb}
use lib.IntN.{ℤ, pos}
use lib.ListN.{length}
use Rattle.laws.specs.Range.{at}
use Rattle.laws.specs.Table.{table, blockwise, all_below, all_blocks}
use Rattle.laws.proofs.Blockwise.{OfBlock, TestOfBlock, block_at, test_at}
use Rattle.laws.proofs.Tables.{length_table, get_d_table, table_same}
use Rattle.laws.proofs.Tests.{all_same, all_groups}

-- number k of the first 64
pub kth : (d : List ℤ) (k : ℕ) → k < 64 → at (table 64 (at d)) k ≡ at d k
kth d k h = get_d_table (pos 0) 64 (at d) k h

-- ---- where there are 64 places: what is told, and what is put
pub told_in : (n : ℕ) (u : Bool) → 64 ≤ n → leb 64 n && u ≡ u
told_in n u h = ap (λ b. b && u) (le-leb 64 n h)

pub put_in : (n : ℕ) (new old : List ℤ) → 64 ≤ n → cond (leb 64 n) new old ≡ new
put_in n new old h = ap (λ b. cond b new old) (le-leb 64 n h)

-- ---- what is made of a quad, and what is told of it, are of its 64 numbers
abbrev pub quad_of : ℕ → (List ℤ → List ℤ) → List ℤ → List ℤ
quad_of n f d = blockwise n f (table 64 (at d))

abbrev pub quad_told : ℕ → (List ℤ → Bool) → List ℤ → Bool
quad_told n p d = all_blocks n p (table 64 (at d))

pub quad_block : (n : ℕ) (f : List ℤ → List ℤ) → OfBlock 64 (quad_of n f)
quad_block n f = record {
  long = λ d. length_table (pos 0) (length (table 64 (at d))) _ ∙ length_table (pos 0) 64 (at d);
  same = λ d d' h. ap (blockwise n f) (table_same 64 (at d) (at d') h);
}

pub quad_range : (n : ℕ) (p : List ℤ → Bool) → TestOfBlock 64 (quad_told n p)
quad_range n p = record { same = λ d d' h. ap (all_blocks n p) (table_same 64 (at d) (at d') h) }

module _ (n m : ℕ) (some : 0 < n) (whole : n * m ≡ 64) where
  -- place i of block c
  inside : (c i : ℕ) → c < m → i < n → n * c + i < 64
  inside c i h g = let p : n * suc c ≤ n * m = mul-le-mul_left n h in omega (arith, p, mul-suc n c, whole, g)

  -- the block of place k
  which : (k : ℕ) → k < 64 → k / n < m
  which k h = (div-lt_iff_lt-mul some).1 (omega (arith, h, whole, mul_comm m n))

  within_block : (k i : ℕ) → k < 64 → i < n → k / n * n + i < 64
  within_block k i h g = omega (arith, inside (k / n) i (which k h) g, mul_comm (k / n) n)

  -- place i of a list, by the place in its quad
  split : (i : ℕ) → (i / n * n ≡ i / 64 * 64 + i % 64 / n * n) × (i % 64 % n ≡ i % n)
  split i =
      let a = i / 64 in
      let r = i % 64 in
      let e : n * (m * a) + r ≡ i = ap (λ t. t + r) (sym (mul_assoc n m a) ∙ ap (λ t. t * a) whole) ∙ div-add-mod i 64 in
      let d : i / n ≡ m * a + r / n = ap (λ t. t / n) (sym e) ∙ mul-add-div some (m * a) r in
      let w : m * a * n ≡ a * 64 = mul_comm (m * a) n ∙ sym (mul_assoc n m a) ∙ ap (λ t. t * a) whole ∙ mul_comm 64 a in
      (ap (λ t. t * n) d ∙ add-mul (m * a) (r / n) n ∙ ap (λ t. t + r / n * n) w, sym (mul-add-mod_self_left n (m * a) r) ∙ ap (λ t. t % n) e)

  -- what stands at place k of what is made of a quad
  pub inverse_at : (f : List ℤ → List ℤ) (d : List ℤ) (k : ℕ) → k < 64 → at (quad_of n f d) k ≡ at (f (table n (λ i. at d (k / n * n + i)))) (k % n)
  inverse_at f d k h =
      get_d_table (pos 0) (length (table 64 (at d))) (block_at n f (table 64 (at d))) k (omega (arith, length_table (pos 0) 64 (at d)))
      ∙ ap (λ t. at (f t) (k % n)) (table_same n _ _ (λ i g. kth d (k / n * n + i) (within_block k i h g)))

  -- and what is told of it
  pub range_is : (p : List ℤ → Bool) (d : List ℤ) → quad_told n p d ≡ all_below m (λ b. p (table n (λ k. at d (n * b + k))))
  range_is p d =
      ap (λ k. all_below k (test_at n p (table 64 (at d)))) (ap (λ k. k / n) (length_table (pos 0) 64 (at d) ∙ sym whole) ∙ mul-div_cancel_left m some)
      ∙ all_same m _ _ (λ b h. ap p (table_same n _ _ (λ k g. kth d (n * b + k) (inside b k h g))))

  -- ---- the quads of a list are its blocks
  pub quads_inverse : (f : List ℤ → List ℤ) (l : List ℤ) (i : ℕ) → block_at 64 (quad_of n f) l i ≡ block_at n f l i
  quads_inverse f l i =
      let s = split i in
      let r : i % 64 < 64 = omega arith in
      inverse_at f (table 64 (λ k. at l (i / 64 * 64 + k))) (i % 64) r
      ∙ ap₂ (λ t (m : ℕ). at (f t) m)
      (table_same n _ _ (λ k h.
      let p : i / 64 * 64 + (i % 64 / n * n + k) ≡ i / n * n + k = omega (arith, s.0) in
      get_d_table (pos 0) 64 (λ k. at l (i / 64 * 64 + k)) (i % 64 / n * n + k) (within_block (i % 64) k r h) ∙ ap (at l) p)) s.1

  pub quads_range : (p : List ℤ → Bool) (l : List ℤ) (q : ℕ) → length l ≡ 64 * q → all_below q (test_at 64 (quad_told n p) l) ≡ all_blocks n p l
  quads_range p l q e =
      all_same q _ _ (λ b _.
      range_is p (table 64 (λ k. at l (64 * b + k)))
      ∙ all_same m _ (λ c. test_at n p l (m * b + c)) (λ c g. ap p (table_same n _ _ (λ k h.
      let w : n * (m * b + c) ≡ 64 * b + n * c = sym (ap (λ t. t * b + n * c) (sym whole) ∙ ap (λ t. t + n * c) (mul_assoc n m b) ∙ sym (mul-add n (m * b) c)) in
      let p : 64 * b + (n * c + k) ≡ n * (m * b + c) + k = omega (arith, w) in
      get_d_table (pos 0) 64 (λ k. at l (64 * b + k)) (n * c + k) (inside c k g h) ∙ ap (at l) p))))
      ∙ all_groups m q (test_at n p l)
      ∙ ap (λ k. all_below k (test_at n p l)) (sym (ap (λ k. k / n) (e ∙ ap (λ t. t * q) (sym whole) ∙ mul_assoc n m q) ∙ mul-div_cancel_left (m * q) some))

  -- whole quads are whole blocks
  pub whole_blocks : (l : List ℤ) → length l % 64 ≡ 0 → length l % n ≡ 0
  whole_blocks l e = sym (split (length l)).1 ∙ ap (λ r. r % n) e ∙ zero-mod n
