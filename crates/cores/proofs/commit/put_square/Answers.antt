-- `cores::commit::put_square` meets its contract: the rectangle that is copied is the block at (x, y). Assumes nothing.
use native.Mathlib.Omega.{arith}
use Rattle.laws.proofs.Digits.{pred_mul}
use Rattle.cores.proofs.Brought.{lies, put_block_lem}
use Rattle.cores.proofs.commit.put_square.Goals as goal

pub copy_rect-requires : goal.copy_rect-requires
copy_rect-requires g c =
    let w = lies _ _ _ _ _ c.requires.half.0 c.requires.q_bound.0 c.requires.q_bound.1 in record {
      width = (w.some, omega arith);
      rect_in = (rw (c.requires.half.1) (record { inside = omega (arith, pred_mul g.row.Q g.row.Q w.some) }), record { inside = w.inside });
    }

pub returns : goal.returns
returns g c =
    let a = c.args in
    put_block_lem g.row.Q a.stride a.x a.y _ a.square.off a.block.now a.plane.now (lies _ _ _ _ _ c.requires.half.0 c.requires.q_bound.0 c.requires.q_bound.1)
    (rw (c.requires.half.1) at c.copy_rect.ensures)

pub overflow_mul-here : goal.overflow_mul-here
overflow_mul-here g c = let w = lies _ _ _ _ _ c.requires.half.0 c.requires.q_bound.0 c.requires.q_bound.1 in omega arith
