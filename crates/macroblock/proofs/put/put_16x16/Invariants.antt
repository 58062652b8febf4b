-- `macroblock::put::put_16x16` meets its contract. The invariant: the first k quads are put; all of them make up the block. Assumes nothing.
use mathlib.Core.List.{List}
use Prim.Native.Nat.{ℕ, ◌+◌, ◌*◌}
use lib.IntN.{ℤ}
use Rattle.macroblock.specs.inner.Blocks.{sum_over, in_pieces}
use Rattle.macroblock.proofs.Quarters.{Quarters}
use Rattle.macroblock.proofs.put.put_16x16.Given as goal

-- the samples of quad k, in column u and row v
abbrev pub sums : List ℕ → List ℤ → ℕ → ℕ → ℕ → ℕ → ℕ → ℕ
sums pred residuals k u v = sum_over pred (v * 128 + u * 8) 16 (in_pieces residuals (4 * k))

abbrev pub invariant-loop-k : goal.invariant-loop-k
invariant-loop-k l = Quarters 8 l.place (sums l.pred l.residuals.list.now) l.initial.plane l.k l.plane
