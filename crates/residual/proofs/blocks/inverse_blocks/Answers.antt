-- `residual::blocks::inverse_blocks` meets its contract: the marks tell first whether the lengths and the numbers pass. Assumes nothing.
use mathlib.Core.Path.{◌≡◌, sym, ◌∙◌}
use mathlib.Core.List.{[], ◌∷◌}
use Prim.Native.Nat.{◌/◌, ◌%◌}
use borrow.Author.Tests.{eqb-true}
use lib.Dec.{eqb}
use lib.ListN.{length}
use Rattle.laws.specs.Answer.{◌unless◌}
use Rattle.laws.proofs.Answers.{passes}
use Rattle.laws.proofs.Tests.{not_both, no_from}
use Rattle.laws.specs.Table.{all_blocks}
use Rattle.residual.proofs.InQuads.{whole_blocks}
use Rattle.residual.proofs.Rooms.{blocks_numbers}
use Rattle.residual.proofs.blocks.inverse_blocks.Goals as goal

-- where a number is out of range, so is the block that it stands in
pub returns-else-branch-clause-in_range_value : goal.returns-else-branch-clause-in_range_value
returns-else-branch-clause-in_range_value g c = let t = g.T.Transform in
    let law = g.met.T.Transform.in_quads in
    let l = c.args.list.now in
    let told = c.in_ok-mark_coded.ensures in
    let whole : length l % 64 ≡ 0 = eqb-true (length l % 64) 0 (passes 1 (eqb (length l % 64) 0) (2 unless eqb (length l / 64) (length c.args.coded.now) ∷ []) (sym told.answer_value)).0 in
    let out = sym told.in_range_value ∙ c.if-branch.false in
    c.if-branch.false
    ∙ sym (no_from (all_blocks t.size t.in_range l) (blocks_numbers t.size t.in_range law.some law.numbers l (whole_blocks t.size law.blocks law.some law.whole l whole)) (λ e. not_both e out))
