-- `residual::reconstruct::clipped_sums` meets its contract. The invariant: the places passed hold the clipped sums. Assumes nothing.
use mathlib.Core.Path.{◌∙◌}
use native.Mathlib.Omega.{arith}
use Prim.Native.Nat.{◌≤◌}
use lib.IntN.{◌+ℤ◌}
use lib.ListN.{length, take, length-replicate, length-take}
use Rattle.std.proofs.lemmas.List.{get_or-take}
use Rattle.laws.specs.Range.{at}
use Rattle.laws.proofs.Ints.{ints}
use Rattle.laws.proofs.Tables.{filled_none, filled_more}
use Rattle.basics.proofs.Clipped.{sum_is}
use Rattle.basics.specs.Clip.{Clip1}
use Rattle.residual.specs.Reconstruct.{sums}
use Rattle.residual.proofs.Part.{table_of}
use Rattle.residual.proofs.reconstruct.clipped_sums.Goals as goal

pub loop-k-init : goal.loop-k-init
loop-k-init g c = filled_none 0 _ g.row.N _ (length-replicate g.row.N 0)

pub overflow_add-pred : goal.overflow_add-pred
overflow_add-pred g c = let p = c.requires.all_within in let w = p.0 in let v = p.1 in search ints depth 20

pub loop-k-preserved : goal.loop-k-preserved
loop-k-preserved g c = let k = c.loop-k.k in
    filled_more 0 _ g.row.N k _ _ (omega arith) c.loop-k.invariant
    (c.clip_u8.ensures ∙ sum_is (at c.args.pred.now k) (at c.args.res.now k) (c.requires.all_within.1.each k) (c.requires.all_within.0.each k))

pub returns : goal.returns
unfolding sums
returns g c = let n = length c.args.res.now in
    let room : n ≤ g.row.N = c.requires.lengths.0 in
    record {
      long = c.loop-k.invariant.long;
      sums = table_of 0 n (λ k. Clip1 (at c.args.pred.now k +ℤ at c.args.res.now k)) (take n c.loop-k.made) (length-take n c.loop-k.made ∙ omega (arith, c.loop-k.invariant.long))
          (λ k h. get_or-take n c.loop-k.made k 0 h ∙ c.loop-k.invariant.done k (omega arith));
    }
