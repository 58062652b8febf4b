-- `macroblock::rules::is_permitted` meets its contract. Where left, above and corner are marked every known mode is permitted. The loop's invariant: the modes
-- passed are permitted. Assumes nothing.
use mathlib.Core.Path.{◌≡◌}
use mathlib.Core.Bool.{true}
use Rattle.laws.specs.Table.{all_below}
use Rattle.cut.specs.Kind.{kind_number}
use Rattle.maps.specs.Neighbours.{marks_of}
use Rattle.macroblock.specs.Rules.{permitted_at}
use Rattle.macroblock.proofs.rules.is_permitted.Given as goal

abbrev pub invariant-loop-k : goal.invariant-loop-k
invariant-loop-k l = all_below l.k (permitted_at (kind_number l.kind) l.modes (marks_of l.marks)) ≡ true
