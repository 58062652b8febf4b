-- `macroblock::rules::is_known` meets its contract: the greatest modes tell of all. Assumes nothing.
use mathlib.Core.Path.{sym, ap, ap₂, ◌∙◌}
use mathlib.Core.Bool.{◌&&◌}
use Prim.Native.Nat.{◌+◌, ◌-◌, ◌≤◌}
use native.Mathlib.Omega.{arith}
use lib.Dec.{leb}
use lib.ListN.{get_or, length}
use Rattle.laws.specs.Table.{all_below}
use Rattle.cut.specs.Kind.{kind_number}
use Rattle.cut.proofs.ByKind.{used_few}
use Rattle.macroblock.specs.Rules.{last_mode, mode_known, known}
use Rattle.macroblock.proofs.Known.{none, modes_known, first_modes, other_modes, kind_low}
use Rattle.macroblock.proofs.rules.is_known.Goals as goal

pub returns : goal.returns
unfolding known
returns c numbers = let kind = kind_number c.args.kind in
    let l = c.args.modes.now in
    let n = c.used_modes-n.result in
    let few : n ≤ length l = omega (arith, c.used_modes-n.ensures, used_few kind, c.requires) in
    let used = ap (leb c.greatest_of-used.result) c.last_mode.ensures ∙ c.greatest_of-used.ensures (last_mode kind) ∙ first_modes (last_mode kind) n l few in
    let others = sym (none c.greatest_of-unused.result) ∙ c.greatest_of-unused.ensures 0 ∙ other_modes 0 n l few
    ∙ ap (λ i. all_below (i - n) (λ k. leb (get_or l (n + k) 0) 0)) c.requires in
    ap (λ t. t && leb c.args.chroma_mode 3) (ap₂ ◌&&◌ used others ∙ modes_known kind l n c.used_modes-n.ensures
    ∙ ap (λ t. t && all_below 16 (mode_known kind l)) (sym (kind_low c.args.kind)))
