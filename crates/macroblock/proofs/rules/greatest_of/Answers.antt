-- `macroblock::rules::greatest_of` meets its contract: it is at most what each of the modes is. Assumes nothing.
use Rattle.std.proofs.Common.{rules, ◌∙◌, ◌&&◌}
use Rattle.std.proofs.lemmas.Iterator.{YieldsList-from_slice}
use Rattle.std.proofs.lemmas.Iterator.Consumers.{fold_from_yields_List}
use borrow.Author.Tests.{tests}
use mathlib.Core.Path.{ap}
use Prim.Native.Nat.{max}
use lib.Dec.{leb, leb-zero}
use lib.ListN.{length, get_or}
use Rattle.laws.specs.Table.{all_below}
use Rattle.macroblock.proofs.Known.{fold_low}
use Rattle.macroblock.proofs.rules.greatest_of.Goals as goal

pub returns : goal.returns
returns c a =
    ap (λ n. leb n a)
    (fold_from_yields_List _ max 0 _ c.fold.ensures.ran (YieldsList-from_slice c.args.modes.now cc) (λ g x b q k. search (rules, tests)))
    ∙ fold_low 0 a c.args.modes.now ∙ ap (λ t. t && all_below (length c.args.modes.now) (λ k. leb (get_or c.args.modes.now k 0) a)) (leb-zero a)
