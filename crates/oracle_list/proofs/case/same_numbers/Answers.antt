-- Slices of numbers are equal where `==` says so.
use Rattle.std.proofs.Common.{arith}
use Rattle.std.proofs.lemmas.Grind.{common_steps}
use Rattle.std.specs.Cmp.Rules.{signed_items}
use Rattle.oracle_list.proofs.case.same_numbers.Goals as goal

pub returns-then-number_of-from : goal.returns-then-number_of-from
returns-then-number_of-from c = grind (arith, common_steps, signed_items c.args.out.now c.args.block.now)
