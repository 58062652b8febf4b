-- The answers of the calls on lists and of those that write into a plane, and the room of the latter, as tests and as facts. Assumes nothing.
use mathlib.Core.Path.{◌≡◌, refl, ap, ◌∙◌}
use mathlib.Core.Bool.{Bool, true, ◌&&◌}
use mathlib.Core.List.{List, [], ◌∷◌}
use Prim.Native.Nat.{ℕ, ◌+◌, ◌-◌, ◌*◌, ◌/◌, ◌%◌, ◌<◌, ◌≤◌}
use native.Mathlib.Nat.{mul-le-mul_right}
use native.Mathlib.Omega.{arith}
use borrow.Author.Tests.{eq-eqb, eqb-true, le-leb, leb-true}
use lib.Dec.{eqb, leb}
use lib.IntN.{ℤ, pos}
use lib.ListN.{length}
use Rattle.laws.specs.Answer.{◌unless◌, answer, written}
use Rattle.laws.specs.Range.{at}
use Rattle.laws.specs.Table.{table, all_blocks}
use Rattle.laws.proofs.Answers.{holds, put}
use Rattle.laws.proofs.Blockwise.{number_in}
use Rattle.laws.proofs.Tables.{length_table}
use Rattle.laws.proofs.Tests.{and_left, and_right, and_both, all_at}
use Rattle.numbers.specs.Numbers.{in_range, all_in_range}
use Rattle.numbers.proofs.InRange.{all_true}
use Rattle.numbers.proofs.InRange as in_range_lem
use Rattle.residual.specs.Quads.{blocks_answer}
use Rattle.residual.specs.Reconstruct.{rows_in, into_room, sums_room, sums_answer}

-- row y of the prediction and of the written block of side n lie in their buffers
pub record Room (n pred_len pred_off pred_stride rec_len rec_off rec_stride y : ℕ) : Type 0 where
  pub wide : n ≤ rec_stride
  pub pred_row : pred_off + y * pred_stride + n ≤ pred_len
  pub rec_row : rec_off + y * rec_stride + n ≤ rec_len

pub room : (n pl po ps rl ro rs y : ℕ) → into_room n pl po ps rl ro rs ≡ true → y < n → Room n pl po ps rl ro rs y
unfolding into_room
room n pl po ps rl ro rs y e h =
    let abcd = and_both (leb ps 4096 && leb n rs && leb rs 4096 && rows_in n pl po ps) (rows_in n rl ro rs) e in
    let abc = and_both (leb ps 4096 && leb n rs && leb rs 4096) (rows_in n pl po ps) abcd.0 in
    let ab = and_left (leb ps 4096 && leb n rs) (leb rs 4096) abc.0 in
    let p : y * ps ≤ (n - 1) * ps = mul-le-mul_right ps (omega arith) in
    let r : y * rs ≤ (n - 1) * rs = mul-le-mul_right rs (omega arith) in
    record {
      wide = leb-true n rs (and_right (leb ps 4096) (leb n rs) ab);
      pred_row = omega (arith, leb-true (po + (n - 1) * ps + n) pl abc.1);
      rec_row = omega (arith, leb-true (ro + (n - 1) * rs + n) rl abcd.1);
    }

-- ---- the answer of a call on lists
pub record Summable (n many pred bytes : ℕ) : Type 0 where
  pub few : n ≤ 64
  pub numbers : many ≡ n
  pub prediction : pred ≡ n
  pub places : bytes ≡ n

pub summable : (n many pred bytes : ℕ) → sums_room n many pred bytes ≡ true → Summable n many pred bytes
unfolding sums_room
summable n many pred bytes e =
    let abc = and_both (leb n 64 && eqb many n && eqb pred n) (eqb bytes n) e in
    let ab = and_both (leb n 64 && eqb many n) (eqb pred n) abc.0 in
    let a = and_both (leb n 64) (eqb many n) ab.0 in
    record { few = leb-true n 64 a.0; numbers = eqb-true many n a.1; prediction = eqb-true pred n ab.1; places = eqb-true bytes n abc.1 }

-- the same of arrays, whose lengths are right
pub sums_array : (n : ℕ) (good : List ℤ → Bool) (a b : List ℤ) → n ≤ 64 → length a ≡ n → length b ≡ n
    → sums_answer n good a b n ≡ answer (8 unless (good a && all_in_range b) ∷ [])
unfolding sums_room
sums_array n good a b h e f = rw (le-leb n 64 h, eq-eqb (length a) n e, eq-eqb (length b) n f, eq-eqb n n refl)

-- ---- the blocks of a list that are all in range have their numbers in range
pub blocks_numbers : (n : ℕ) (good : List ℤ → Bool) → 0 < n → ((d : List ℤ) → length d ≡ n → good d ≡ true → all_in_range d ≡ true)
    → (l : List ℤ) → length l % n ≡ 0 → all_blocks n good l ≡ true → all_in_range l ≡ true
blocks_numbers n good some numbers l whole g =
    all_true l (λ k h.
    let p = number_in n l k some whole h in
    let block = table n (λ i. at l (n * (k / n) + i)) in
    ap in_range p.1 ∙ in_range_lem.all_at block (k % n) (numbers block (length_table (pos 0) n _) (all_at (length l / n) _ g (k / n) p.0)))

-- ---- a call on the quads of a list
-- the lengths that pass
pub blocks_pass : (l : List ℤ) (places marks : ℕ) → length l ≡ places → length l ≡ 64 * marks → blocks_answer l places marks ≡ 0
blocks_pass l places marks e f = rw (eq-eqb (length l) places e, eq-eqb (length l % 64) 0 (omega arith), eq-eqb (length l / 64) marks (omega arith))

-- a list copied into one of its own length
pub copied : {r : ℕ} {out : List ℤ} (l old : List ℤ) → length l ≡ length old → r ≡ answer (2 unless eqb (length l) (length old) ∷ []) → out ≡ written r old l
    → (r ≡ 0) × (out ≡ l)
copied l old e a w = let z = a ∙ holds 2 [] (eq-eqb (length l) (length old) e) in (z, w ∙ put old l z)
