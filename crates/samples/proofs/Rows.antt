-- A row of a block, as the next of the places that are put from the front. Assumes nothing.
use mathlib.Core.Path.{◌≡◌, refl}
use mathlib.Core.List.{List, [], ◌++◌, append-nil}
use Prim.Native.Nat.{ℕ, ◌+◌, ◌-◌, ◌≤◌}
use native.Mathlib.Omega.{arith}
use borrow.Rule.Slice.PartMut.{put_mid}
use lib.ListN.{length, take, drop, length-drop, drop_of_length-le}
use lib.Seq.{take_all}
use Rattle.laws.specs.Table.{table, onto}
use Rattle.laws.proofs.Ontos.{onto_long, onto_row}

-- the places from a on, up to e, written through their part of the list
pub row_put : (a e : ℕ) (g : ℕ → ℕ) (l l' ys : List ℕ) → a ≤ e → e ≤ length l → l' ≡ onto a g l → ys ≡ table (e - a) (λ i. g (a + i))
    → put_mid a (e - a) l' ys ≡ onto e g l
row_put a e g l l' ys less in-l q ey =
    let row : List ℕ = table (e - a) (λ i. g (a + i)) in
    let len : length l' ≡ length l = onto_long a g l l' (omega arith) q in
    let rest : take (length l' - a) (drop a l') ≡ drop a l' = take_all (length l' - a) (drop a l') (simp length-drop (omega arith)) in
    let none : drop (length l' - a) (drop a l') ≡ [] = drop_of_length-le (drop a l') {i = length l' - a} (simp length-drop (omega arith)) in
    let whole : take a l' ++ ((row ++ drop (e - a) (take (length l' - a) (drop a l'))) ++ drop (length l' - a) (drop a l')) ≡ onto (a + (e - a)) g l =
    onto_row a (e - a) g (λ i. g (a + i)) l l' _ (omega arith) q refl (λ i h. refl) in
    let all : a + (e - a) ≡ e = omega arith in
    rw ey (rw (rest, none, append-nil (row ++ drop (e - a) (drop a l')), all) at whole)
