-- `samples::intra_16x16::luma16x16_dc` meets its contract: the one sample, of the neighbourhood with any corner. Assumes nothing.
use mathlib.Core.Path.{◌≡◌, refl, ap, ◌∙◌}
use mathlib.Core.List.{List, [], ◌∷◌}
use Prim.Native.Nat.{ℕ}
use native.Mathlib.Omega.{arith}
use lib.ListN.{length, set}
use Rattle.basics.specs.Near.{near}
use Rattle.samples.proofs.Drawn.{in_lists}
use Rattle.samples.proofs.intra_16x16.luma16x16_dc.Goals as goal

only : (l : List ℕ) (v : ℕ) → length l ≡ 1 → set l 0 v ≡ v ∷ []
only [] v e = absurd (omega arith)
only (x ∷ []) v e = refl
only (x ∷ y ∷ l) v e = absurd (omega arith)

pub returns-clause-out_after : goal.returns-clause-out_after
returns-clause-out_after c = let b = c.args.beside in
    only c.args.out.now c.dc_16x16.result c.if-out-ne1.false
    ∙ ap (λ (v : ℕ). v ∷ []) (rw c.from.ensures at (c.dc_16x16.ensures (near b.above.now b.left.now 0) (rw c.from.ensures (in_lists 16 b 0))))
