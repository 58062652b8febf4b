-- `macroblock::put::copy_eight` meets its contract: eight samples, one after the other, each the sum of itself and 0. Assumes nothing.
use mathlib.Core.Path.{◌≡◌}
use Prim.Native.Nat.{ℕ}
use native.Mathlib.Omega.{arith}
use lib.IntN.{pos, ◌+ℤ◌}
use lib.ListN.{get_or}
use Rattle.laws.proofs.Patches.{front_next, front_none}
use Rattle.basics.specs.Clip.{Clip1}
use Rattle.macroblock.proofs.Rows.{clip_byte}
use Rattle.macroblock.proofs.put.copy_eight.Goals as goal

pub returns : goal.returns
returns c = let l = c.args.row.now in
    let p = c.args.pred.now in
    let f : ℕ → ℕ = λ i. Clip1 (pos (get_or p i 0) +ℤ pos 0) in
    let same : (i : ℕ) → get_or p i 0 ≡ f i = λ i. clip_byte (get_or p i 0) (c.shared_slice_known-8-1.given i).fits in
    front_next 7 8 f l (omega arith) (omega arith)
    (front_next 6 7 f l (omega arith) (omega arith)
    (front_next 5 6 f l (omega arith) (omega arith)
    (front_next 4 5 f l (omega arith) (omega arith)
    (front_next 3 4 f l (omega arith) (omega arith)
    (front_next 2 3 f l (omega arith) (omega arith)
    (front_next 1 2 f l (omega arith) (omega arith)
    (front_next 0 1 f l (omega arith) (omega arith) (front_none f l) (same 0)) (same 1)) (same 2)) (same 3)) (same 4)) (same 5)) (same 6)) (same 7)
