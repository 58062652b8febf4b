-- The first i samples are put.
use mathlib.Core.Path.{◌≡◌}
use lib.ListN.{get_or}
use Rattle.laws.proofs.Patches.{front}
use Rattle.cores.proofs.copy.copy_row.Given as goal

abbrev pub invariant-loop-i : goal.invariant-loop-i
invariant-loop-i g l = l.to ≡ front (λ i. get_or l.from i 0) l.i l.initial.to
