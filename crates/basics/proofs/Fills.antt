-- A value over a part of a list, as the next of the places that are put from the front. Assumes nothing.
use mathlib.Core.Path.{◌≡◌, refl, sym, ap, ◌∙◌}
use mathlib.Core.List.{List, [], ◌++◌, append-nil}
use Prim.Native.Nat.{ℕ, ◌+◌, ◌-◌, ◌*◌, ◌/◌, ◌%◌, ◌≤◌, ◌<◌}
use native.Mathlib.Omega.{arith}
use borrow.Rule.Slice.PartMut.{put_mid, mid_of, mid_len}
use lib.ListN.{length, take, drop, replicate, length-drop, drop_of_length-le}
use lib.Seq.{take_all}
use Rattle.laws.specs.Table.{table, block_of, onto}
use Rattle.laws.proofs.Ontos.{onto_none, onto_all, onto_long, onto_row}
use Rattle.laws.proofs.Tables.{table_const}

-- those from a on, up to e
pub fill_part : (a e v : ℕ) (g : ℕ → ℕ) (l l' : List ℕ) {ys : List ℕ} → a ≤ e → e ≤ length l → l' ≡ onto a g l → ys ≡ replicate (length (mid_of a (e - a) l')) v
    → ((i : ℕ) → i < e - a → v ≡ g (a + i)) → put_mid a (e - a) l' ys ≡ onto e g l
fill_part a e v g l l' {ys} less in-l q ey same =
    let len : length l' ≡ length l = onto_long a g l l' (omega arith) q in
    let rest : take (length l' - a) (drop a l') ≡ drop a l' = take_all (length l' - a) (drop a l') (simp length-drop (omega arith)) in
    let none : drop (length l' - a) (drop a l') ≡ [] = drop_of_length-le (drop a l') {i = length l' - a} (simp length-drop (omega arith)) in
    let row : ys ≡ table (e - a) (λ _. v) = ey ∙ ap (λ n. replicate n v) (mid_len a e l' (omega arith)) ∙ sym (table_const (e - a) v) in
    let whole : take a l' ++ ((table (e - a) (λ _. v) ++ drop (e - a) (take (length l' - a) (drop a l'))) ++ drop (length l' - a) (drop a l')) ≡ onto (a + (e - a)) g l =
    onto_row a (e - a) g (λ _. v) l l' _ (omega arith) q refl same in
    let all : a + (e - a) ≡ e = omega arith in
    rw row (rw (rest, none, append-nil (table (e - a) (λ _. v) ++ drop (e - a) (drop a l')), all) at whole)

-- a whole block of one sample
pub fill_block : (n v : ℕ) (g : ℕ → ℕ → ℕ) (l : List ℕ) {ys : List ℕ} → length l ≡ n * n → ys ≡ replicate (length (mid_of 0 (n * n - 0) l)) v → ((x y : ℕ) → v ≡ g x y)
    → put_mid 0 (n * n - 0) l ys ≡ block_of n g
fill_block n v g l e q same =
    fill_part 0 (n * n) v (λ k. g (k % n) (k / n)) l l (omega arith) (omega arith) (onto_none _ l) q (λ i _. same ((0 + i) % n) ((0 + i) / n)) ∙ onto_all (n * n) _ l e
