-- `intra_nxn::rows::slide` meets its contract. After z turns the first 2z rows are put, each through its own part of the block. Assumes nothing.
use mathlib.Core.Path.{◌≡◌, sym, ap, ◌∙◌}
use Prim.Native.Nat.{ℕ, ◌+◌, ◌*◌, ◌/◌, ◌%◌, ◌≤◌, ◌<◌}
use native.Mathlib.Omega.{arith}
use lib.ListN.{length-take, length-drop}
use Rattle.laws.specs.Table.{onto}
use Rattle.laws.proofs.Ontos.{onto_none, onto_row}
use Rattle.intra_nxn.specs.inner.Run.{slid}
use Rattle.intra_nxn.proofs.Slides.{odd_from, even_from, rows_inside, even_row, odd_row}
use Rattle.intra_nxn.proofs.rows.slide.Goals as goal

-- both rows of a turn lie in the block
inside : (n z : ℕ) → n % 2 ≡ 0 → z < n / 2 → (2 * z * n + n + n ≤ n * n) × ((2 * z + 1) * n ≡ 2 * z * n + n)
inside n z two h = (rows_inside n z two h, odd_from n z)

pub loop-z-init : goal.loop-z-init
loop-z-init g c = let none : 2 * 0 * g.row.N ≡ 0 = omega arith in rw none (onto_none _ _)

pub window-requires-in-loop-z : goal.window-requires-in-loop-z
window-requires-in-loop-z g c = (omega arith, simp (length-take, length-drop) (omega (arith, inside g.row.N c.loop-z.z c.requires.even.0.2 (omega arith))))

pub loop-z-preserved : goal.loop-z-preserved
loop-z-preserved g c = let a = c.args in
    let n = g.row.N in
    let z = c.loop-z.z in
    let f : ℕ → ℕ = λ k. slid a.even.now a.a a.odd.now a.b a.up a.back (k % n) (k / n) in
    let here = inside n z c.requires.even.0.2 (omega arith) in
    let next : (2 * z + 1) * n + n ≡ 2 * (z + 1) * n = omega (arith, here, even_from n z) in
    let e₁ =
    onto_row (2 * z * n) n f _ a.out.now c.loop-z.out c.window.new.row (omega (arith, here)) c.loop-z.invariant c.window.ensures
    (λ i l. even_row n a.even.now a.a a.odd.now a.b a.up a.back z i _ l c.moved.ensures.0) in
    let e₂ =
    onto_row ((2 * z + 1) * n) n f _ a.out.now _ c.window-in-loop-z.new.row (omega (arith, here)) (e₁ ∙ ap (λ (k : ℕ). onto k f a.out.now) (sym (odd_from n z))) c.window-in-loop-z.ensures
    (λ i l. odd_row n a.even.now a.a a.odd.now a.b a.up a.back z i _ l c.moved-in-loop-z.ensures.0) in
    rw (← next) e₂
