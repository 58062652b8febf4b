-- `residual::blocks::invert_quads` meets its contract. The invariant: the first q quads are put, and it is told whether their blocks are in range.
-- Assumes nothing.
use mathlib.Core.Path.{◌≡◌, sym, ap, ◌∙◌}
use mathlib.Core.Bool.{◌&&◌}
use Prim.Native.Nat.{◌+◌, ◌*◌, ◌-◌, ◌/◌, ◌≤◌}
use native.Mathlib.Omega.{arith}
use borrow.Rule.Slice.PartMut.{mid_of}
use lib.ListN.{length, get_or, length-take, length-drop}
use Rattle.laws.specs.Table.{onto}
use Rattle.laws.proofs.Blockwise.{block_at, block_more, test_next}
use Rattle.laws.proofs.Ontos.{onto_none, onto_all}
use Rattle.laws.proofs.Tables.{get_d_table, table_same}
use Rattle.laws.proofs.Tests.{all_none}
use Rattle.numbers.proofs.InRange.{part_in_range}
use Rattle.residual.specs.Quads.{coded_quad}
use Rattle.residual.proofs.InQuads.{told_in, put_in, quad_of, quad_told, quad_block, quad_range, quads_inverse, quads_range}
use Rattle.residual.proofs.Quads.{coded_part}
use Rattle.residual.proofs.blocks.invert_quads.Goals as goal

pub loop-q-init : goal.loop-q-init
loop-q-init g c = (onto_none _ _, sym (all_none _))

pub invariant_of-quad : goal.invariant_of-quad
invariant_of-quad g c = let l = c.args.list.now in
    let q = c.loop-q.q in
    let h : 64 * q + 64 ≤ length l = omega (arith, c.requires.list_len.0) in
    record {
      long = simp (length-take, length-drop) (omega arith);
      good = part_in_range (64 * q) (length l - 64 * q) l c.requires.list_len.2;
      marked = ap (λ c. get_or c q 0) c.requires.coded_value ∙ get_d_table 0 (length l / 64) (coded_quad l) q (omega (arith, c.requires.list_len.0)) ∙ coded_part l q h;
    }

pub loop-q-preserved : goal.loop-q-preserved
loop-q-preserved g c = let t = g.T.Transform in
    let l = c.args.list.now in
    let h : 64 * c.loop-q.q + 64 ≤ length l = omega (arith, c.requires.list_len.0) in
    let o = mid_of (64 * c.loop-q.q) (length c.loop-q.out - 64 * c.loop-q.q) c.loop-q.out in
    let room : 64 ≤ length o = simp (length-take, length-drop) (omega arith) in (
      block_more 64 (quad_of t.size t.inverse) (quad_block t.size t.inverse) c.loop-q.q l c.args.out.now c.loop-q.out c.loop-q.invariant.0 h (sym c.requires.list_len.1)
          c.invert_quad-good.new.out (c.invert_quad-good.ensures.out_after ∙ put_in (length o) _ o room),
      ap (λ t. c.loop-q.good && t) (c.invert_quad-good.ensures.value ∙ told_in (length o) _ room) ∙ test_next 64 (quad_told t.size t.in_range) (quad_range t.size t.in_range) l c.loop-q.q c.loop-q.good h c.loop-q.invariant.1,
    )

pub returns : goal.returns
returns g c = let t = g.T.Transform in
    let law = g.met.T.Transform.in_quads in
    let l = c.args.list.now in
    let o = c.args.out.now in
    let n : c.loop-q.q ≡ length c.args.coded.now = omega arith in
    let e : 64 * c.loop-q.q ≡ length l = omega (arith, c.requires.list_len.0) in
    record {
      value = c.loop-q.invariant.1 ∙ quads_range t.size law.blocks law.some law.whole t.in_range l c.loop-q.q (sym e);
      out_after = c.loop-q.invariant.0 ∙ ap (λ n. onto n (block_at 64 (quad_of t.size t.inverse) l) o) e ∙ onto_all (length l) (block_at 64 (quad_of t.size t.inverse) l) o (sym c.requires.list_len.1)
          ∙ table_same (length l) _ _ (λ i h. quads_inverse t.size law.blocks law.some law.whole t.inverse l i);
    }
