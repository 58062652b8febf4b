-- The quads of a list: four blocks each, their marks, and the two easy forms, where no number but the first of each block is other than 0. Assumes nothing.
use mathlib.Core.Path.{◌≡◌, refl, sym, ap, ap₂, ◌∙◌}
use mathlib.Core.Bool.{Bool, true, false, cond, ◌&&◌}
use mathlib.Core.List.{List, ◌∷◌}
use Prim.Native.Nat.{ℕ, zero, suc, ◌+◌, ◌*◌, ◌-◌, ◌/◌, ◌%◌, ◌<◌, ◌≤◌}
use native.Mathlib.Decide.{dec_lt}
use native.Mathlib.Nat.{zero-add}
use native.Mathlib.Omega.{arith}
use borrow.Author.Tests.{leb-true}
use borrow.Rule.Slice.PartMut.{mid_of, mid_len}
use lib.Dec.{lit<}
use lib.IntN.{ℤ, pos, negsuc}
use lib.ListN.{length, replicate, get_or-replicate}
use lib.Signed.{le_z}
use Rattle.laws.specs.Range.{at, minus}
use Rattle.laws.specs.Table.{table, blockwise, all_below}
use Rattle.laws.proofs.Blockwise.{OfBlock, block_at}
use Rattle.laws.proofs.Stretches.{part_at}
use Rattle.laws.proofs.Tables.{length_table, get_d_table, table_same, table_const}
use Rattle.laws.proofs.Tests.{not_both, and_left, and_right, and_both, all_at, all_of_lem, all_same, all_groups}
use Rattle.numbers.specs.Numbers.{in_range, all_in_range, all_of, is_zero, is_small, last_in_range}
use Rattle.numbers.proofs.InRange as in_range_lem
use Rattle.residual.specs.Agreement.{lone}
use Rattle.residual.specs.Inverse.{rounded, inverse4x4, in_range4x4}
use Rattle.residual.specs.Quads.{coded_quad}
use Rattle.residual.specs.inner.Quads.{quad_inverse, quad_in_range, OnlyFirsts}
use Rattle.residual.proofs.Agreement.{agreement}
use Rattle.residual.proofs.InQuads as quads
use Rattle.residual.proofs.InQuads.{kth}

pub quad_block : OfBlock 64 quad_inverse
unfolding quad_inverse
quad_block = quads.quad_block 16 inverse4x4

-- what stands at place k of a quad's residuals, and whether its blocks are in range
pub inverse_at : (d : List ℤ) (k : ℕ) → k < 64 → at (quad_inverse d) k ≡ at (inverse4x4 (table 16 (λ i. at d (k / 16 * 16 + i)))) (k % 16)
unfolding quad_inverse
inverse_at d k h = quads.inverse_at 16 4 (lit< tt) refl inverse4x4 d k h

pub range_is : (d : List ℤ) → quad_in_range d ≡ all_below 4 (λ b. in_range4x4 (table 16 (λ k. at d (16 * b + k))))
unfolding quad_in_range
range_is d = quads.range_is 16 4 (lit< tt) refl in_range4x4 d

-- ---- the quads of a list
module _ (l : List ℤ) where
  -- the numbers of a quad, as a part of the list
  pub quad_all : (p : ℤ → Bool) (q : ℕ) → 64 * q + 64 ≤ length l → all_of p (mid_of (64 * q) (64 * q + 64 - 64 * q) l) ≡ all_below 64 (λ k. p (at l (64 * q + k)))
  quad_all p q h =
      let n : 64 * q + 64 - 64 * q ≡ 64 = omega arith in
      ap (λ m. all_below m (λ k. p (at (mid_of (64 * q) (64 * q + 64 - 64 * q) l) k))) (mid_len (64 * q) (64 * q + 64) l h ∙ n)
      ∙ all_same 64 _ _ (λ k g. ap p (part_at (pos 0) l (64 * q) (64 * q + 64 - 64 * q) k (omega arith)))

  -- a list whose quads' numbers are in range
  pub quads_numbers : (n : ℕ) → length l ≡ 64 * n → all_below n (λ q. all_below 64 (λ k. in_range (at l (64 * q + k)))) ≡ all_in_range l
  quads_numbers n e = all_groups 64 n (λ k. in_range (at l k)) ∙ ap (λ m. all_below m (λ k. in_range (at l k))) (sym e) ∙ in_range_lem.in_range_all l

-- ---- zeros
pub zero_is : (z : ℤ) → is_zero z ≡ true → z ≡ pos 0
unfolding is_zero
zero_is (pos zero) e = refl
zero_is (pos (suc n)) e = let h : suc n ≤ 0 = leb-true (suc n) 0 (and_right (le_z (pos 0) (pos (suc n))) (le_z (pos (suc n)) (pos 0)) e) in absurd (omega arith)
zero_is (negsuc n) e = absurd (not_both e refl)

-- the mark of a quad says so, and whether its numbers are small
pub uncoded : (l : List ℤ) (q : ℕ) → coded_quad l q ≡ 0 → all_below 64 (λ k. is_zero (at l (64 * q + k))) ≡ true
unfolding coded_quad
uncoded l q e = go (all_below 64 (λ k. is_zero (at l (64 * q + k)))) (all_below 64 (λ k. is_small (at l (64 * q + k)))) e
  where
    go : (b s : Bool) → ◌≡◌ {A = ℕ} (cond b 0 (cond s 1 2)) 0 → b ≡ true
    go true s e = refl
    go false true e = absurd (omega arith)
    go false false e = absurd (omega arith)

pub coded_small : (l : List ℤ) (q : ℕ) → coded_quad l q ≡ 1 → all_below 64 (λ k. is_small (at l (64 * q + k))) ≡ true
unfolding coded_quad
coded_small l q e = go (all_below 64 (λ k. is_zero (at l (64 * q + k)))) (all_below 64 (λ k. is_small (at l (64 * q + k)))) e
  where
    go : (b s : Bool) → ◌≡◌ {A = ℕ} (cond b 0 (cond s 1 2)) 1 → s ≡ true
    go true s e = absurd (omega arith)
    go false true e = refl
    go false false e = absurd (omega arith)

-- the same of the first quad
pub first_uncoded : (d : List ℤ) → coded_quad d 0 ≡ 0 → all_below 64 (λ k. is_zero (at d k)) ≡ true
first_uncoded d e = all_same 64 _ _ (λ k _. ap (λ n. is_zero (at d n)) (sym (zero-add k))) ∙ uncoded d 0 e

pub first_small : (d : List ℤ) → coded_quad d 0 ≡ 1 → all_below 64 (λ k. is_small (at d k)) ≡ true
first_small d e = all_same 64 _ _ (λ k _. ap (λ n. is_small (at d n)) (sym (zero-add k))) ∙ coded_small d 0 e

-- it is that of the part of the list from the quad on
pub coded_part : (l : List ℤ) (q : ℕ) → 64 * q + 64 ≤ length l → coded_quad l q ≡ coded_quad (mid_of (64 * q) (length l - 64 * q) l) 0
unfolding coded_quad
coded_part l q h =
    let part = mid_of (64 * q) (length l - 64 * q) l in
    let same : (k : ℕ) → k < 64 → at l (64 * q + k) ≡ at part (0 + k)
    = λ k g. sym (ap (at part) (zero-add k) ∙ part_at (pos 0) l (64 * q) (length l - 64 * q) k (omega arith)) in
    ap₂ (λ (b s : Bool). cond b 0 (cond s 1 2)) (all_same 64 _ _ (λ k g. ap is_zero (same k g))) (all_same 64 _ _ (λ k g. ap is_small (same k g)))

pub zero_firsts : (d : List ℤ) → all_below 64 (λ k. is_zero (at d k)) ≡ true → OnlyFirsts 16 d
zero_firsts d e = record { rest = λ b i h p g. zero_is (at d (16 * b + i)) (all_at 64 (λ k. is_zero (at d k)) e (16 * b + i) (omega arith)) }

-- how a loop that looks at all numbers of a block but the first goes on to block b
pub rest_next : (d : List ℤ) (b : ℕ) (x r : ℤ) → 16 * b + 16 ≤ length d → is_zero r ≡ is_zero x && all_of is_zero (mid_of (16 * b + 1) (16 * b + 16 - (16 * b + 1)) d)
    → (is_zero x ≡ true → (c i : ℕ) → c < b → 0 < i → i < 16 → at d (16 * c + i) ≡ pos 0)
    → is_zero r ≡ true → (c i : ℕ) → c < b + 1 → 0 < i → i < 16 → at d (16 * c + i) ≡ pos 0
rest_next d b x r room told before e c i hc hi g = go (dec_lt c b)
  where
    s : List ℤ
    s = mid_of (16 * b + 1) (16 * b + 16 - (16 * b + 1)) d

    both : (is_zero x ≡ true) × (all_of is_zero s ≡ true)
    both = and_both _ _ (sym told ∙ e)

    long : length s ≡ 15
    long = mid_len (16 * b + 1) (16 * b + 16) d room ∙ (let n : 16 * b + 16 - (16 * b + 1) ≡ 15 = omega arith in n)

    go : Dec (c < b) → at d (16 * c + i) ≡ pos 0
    go (yes p) = before both.0 c i p hi g
    go (no p) =
        let m : 16 * b + 1 + (i - 1) ≡ 16 * c + i = omega arith in
        sym (part_at (pos 0) d (16 * b + 1) (16 * b + 16 - (16 * b + 1)) (i - 1) (omega arith) ∙ ap (at d) m)
        ∙ zero_is (at s (i - 1)) (all_at (length s) (λ k. is_zero (at s k)) both.1 (i - 1) (omega (arith, long)))

-- ---- the easy forms
module _ (d : List ℤ) (F : OnlyFirsts 16 d) where
  -- a block is its first number alone
  lone_block : (a b : ℕ) → a ≡ 16 * b → b < 4 → table 16 (λ k. at d (a + k)) ≡ lone (at d a)
  unfolding table
  lone_block a b e h =
      let z : a + 0 ≡ a = omega arith in
      ap₂ (λ (x : ℤ) (t : List ℤ). x ∷ t) (ap (at d) z)
      (table_same 15 (λ k. at d (a + suc k)) (λ _. pos 0) (λ k g.
      let m : a + suc k ≡ 16 * b + suc k = omega arith in
      ap (at d) m ∙ F.rest b (suc k) (omega arith) (omega arith) (omega arith))
      ∙ table_const 15 (pos 0))

  -- sixteen equal residuals for each block
  pub flat_inverse : quad_inverse d ≡ table 64 (λ k. rounded (at d (k / 16 * 16)))
  unfolding quad_inverse
  flat_inverse =
      ap (λ n. table n (block_at 16 inverse4x4 (table 64 (at d)))) (length_table (pos 0) 64 (at d))
      ∙ table_same 64 _ _ (λ k h.
      let m : k / 16 * 16 ≡ 16 * (k / 16) = omega arith in
      ap (λ t. at (inverse4x4 t) (k % 16)) (table_same 16 _ _ (λ i g. kth d (k / 16 * 16 + i) (omega arith)) ∙ lone_block (k / 16 * 16) (k / 16) m (omega arith))
      ∙ ap (λ t. at t (k % 16)) (agreement.flat (at d (k / 16 * 16)))
      ∙ get_or-replicate 16 (k % 16) (rounded (at d (k / 16 * 16))) (pos 0) (omega arith))

  -- each in range where its first number is not too high
  pub flat_range : all_in_range d ≡ true → quad_in_range d ≡ all_below 4 (λ b. le_z (at d (16 * b)) (pos 32735))
  unfolding in_range last_in_range
  flat_range e =
      range_is d
      ∙ all_same 4 _ _ (λ b h.
      let v = at d (16 * b) in
      ap in_range4x4 (lone_block (16 * b) b refl h) ∙ agreement.lone_range v
      ∙ ap (λ t. t && le_z v (pos 32735)) (and_left (le_z (minus 32768) v) (le_z v (pos 32767)) (in_range_lem.all_at d (16 * b) e)))

-- a quad of zeros has residuals that are 0, and is in range
module _ (d : List ℤ) (z : all_below 64 (λ k. is_zero (at d k)) ≡ true) where
  zero_at : (k : ℕ) → k < 64 → at d k ≡ pos 0
  zero_at k h = zero_is (at d k) (all_at 64 (λ k. is_zero (at d k)) z k h)

  pub zero_inverse : quad_inverse d ≡ replicate 64 (pos 0)
  unfolding rounded
  zero_inverse =
      flat_inverse d (zero_firsts d z) ∙ table_same 64 _ (λ _. pos 0) (λ k h. ap rounded (zero_at (k / 16 * 16) (omega arith))) ∙ table_const 64 (pos 0)

  pub zero_range : all_in_range d ≡ true → quad_in_range d ≡ true
  zero_range e = flat_range d (zero_firsts d z) e ∙ all_of_lem 4 _ (λ b h. ap (λ v. le_z v (pos 32735)) (zero_at (16 * b) (omega arith)))

-- a quad that is not marked has residuals that are 0
pub blank_quad : (l : List ℤ) (q i : ℕ) → i < 64 → 64 * q + i < length l → coded_quad l q ≡ 0 → at (blockwise 16 inverse4x4 l) (64 * q + i) ≡ pos 0
unfolding quad_inverse
blank_quad l q i h room e =
    let d = table 64 (λ k. at l (64 * q + k)) in
    let place : (64 * q + i) / 64 * 64 ≡ 64 * q = omega arith in
    let number : (64 * q + i) % 64 ≡ i = omega arith in
    get_d_table (pos 0) (length l) (block_at 16 inverse4x4 l) (64 * q + i) room ∙ sym (quads.quads_inverse 16 4 (lit< tt) refl inverse4x4 l (64 * q + i))
    ∙ ap₂ (λ (a b : ℕ). at (quad_inverse (table 64 (λ k. at l (a + k)))) b) place number
    ∙ ap (λ t. at t i) (zero_inverse d (all_same 64 _ _ (λ k g. ap is_zero (get_d_table (pos 0) 64 (λ k. at l (64 * q + k)) k g)) ∙ uncoded l q e))
    ∙ get_or-replicate 64 i (pos 0) (pos 0) h
