-- `residual::passes::columns` meets its contract. The invariant: the first i rows are put. Assumes nothing.
use mathlib.Core.Path.{◌≡◌, sym, ap, ◌∙◌}
use mathlib.Core.List.{[], ◌∷◌, ◌++◌}
use Prim.Native.Nat.{ℕ, zero, suc, ◌+◌, ◌*◌, ◌<◌}
use native.Mathlib.Omega.{arith}
use lib.Dec.{lit<}
use lib.IntN.{ℤ}
use lib.ListN.{length, drop}
use mir.Facts.{to_z-of_z}
use mir.Syntax.{w32}
use borrow.Author.Rules.{rules}
use Rattle.laws.specs.Range.{at}
use Rattle.laws.specs.Table.{onto}
use Rattle.laws.proofs.Blockwise.{itself}
use Rattle.laws.proofs.Ontos.{onto_none, onto_long}
use Rattle.residual.specs.inner.Passes.{columns_of}
use Rattle.residual.proofs.TwoPasses.{in_column_lem, of_columns}
use Rattle.residual.proofs.passes.columns.Goals as goal
use Rattle.residual.proofs.passes.columns.Goals.{At-loop-i}

-- the list has kept its length
long : (c : At-loop-i) → length c.loop-i.h ≡ length c.args.h.now
long c = onto_long (4 * c.loop-i.i) _ c.args.h.now c.loop-i.h (omega (arith, c.loop-i.invariant.0, c.requires.1)) c.loop-i.invariant.1

-- four numbers, one by one
four-at : (g : ℕ → ℤ) {x y z w : ℤ} → x ≡ g 0 → y ≡ g 1 → z ≡ g 2 → w ≡ g 3 → (j : ℕ) → j < 4 → at (x ∷ y ∷ z ∷ w ∷ []) j ≡ g j
four-at g a b c d zero h = a
four-at g a b c d (suc zero) h = b
four-at g a b c d (suc (suc zero)) h = c
four-at g a b c d (suc (suc (suc zero))) h = d
four-at g a b c d (suc (suc (suc (suc j)))) h = absurd (omega arith)

pub loop-i-init : goal.loop-i-init
loop-i-init c = (omega arith, onto_none _ _)

pub put_row-requires : goal.put_row-requires
put_row-requires c = omega (arith, long c.before.before.before.before.before.before, c.requires.1)

pub loop-i-preserved : goal.loop-i-preserved
loop-i-preserved c = let f = c.args.f.now in
    let i = c.loop-i.i in
    let next : 4 * i + 4 ≡ 4 * (i + 1) = omega arith in
    let is : (j : ℕ) → j < 4 → _ = λ j h. in_column_lem f i j (omega arith) h in (
      omega arith,
      c.put_row.ensures (at (columns_of f)) c.args.h.now (sym (long c.before.before.before.before.before.before.before.before))
          (four-at (λ j. at (columns_of f) (4 * i + j)) (to_z-of_z {w = w32} {z = at c.column-h0.result i} (search rules) ∙ ap (λ l. at l i) c.column-h0.ensures ∙ is 0 (lit< tt))
          (to_z-of_z {w = w32} {z = at c.column-h1.result i} (search rules) ∙ ap (λ l. at l i) c.column-h1.ensures ∙ is 1 (lit< tt))
          (to_z-of_z {w = w32} {z = at c.column-h2.result i} (search rules) ∙ ap (λ l. at l i) c.column-h2.ensures ∙ is 2 (lit< tt))
          (to_z-of_z {w = w32} {z = at c.column-h3.result i} (search rules) ∙ ap (λ l. at l i) c.column-h3.ensures ∙ is 3 (lit< tt)))
          c.loop-i.invariant.1
          ∙ ap (λ n. onto n (at (columns_of f)) c.args.h.now) next,
    )

pub shape_of-h : goal.shape_of-h
shape_of-h c = long c.before

pub returns : goal.returns
returns c = let all : 4 * c.loop-i.i ≡ 16 = omega arith in
    let f = c.args.f.now in
    c.loop-i.invariant.1 ∙ ap (λ n. onto n (at (columns_of f)) c.args.h.now) all ∙ ap (λ l. l ++ drop 16 c.args.h.now) (itself 16 columns_of of_columns f)
