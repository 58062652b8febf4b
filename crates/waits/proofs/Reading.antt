-- What the loops over a macroblock's blocks speak of.
use mathlib.Core.Bool.{Bool}
use mathlib.Core.List.{List}
use mathlib.Core.Path.{◌≡◌, refl, ap}
use Prim.Native.Nat.{ℕ, zero, suc, min}
use native.Mathlib.Omega.{arith}
use lib.ListN.{get_or}
use Rattle.maps.specs.Neighbours.{Side, marks_of}
use Rattle.maps.specs.declared.neighbours.Marks.{Marks}
use Rattle.cut.specs.Cut.{cut_for}
use Rattle.cut.specs.Kind.{kind_number}
use Rattle.cut.specs.declared.kind.Kind.{Kind}
use Rattle.waits.specs.Waits.{block_reads, predictor_for}

-- block k reads samples that d holds
abbrev pub reading : Kind → Marks → List ℕ → Side → ℕ → Bool
reading kind marks modes d k =
    block_reads (predictor_for (kind_number kind)) (cut_for (kind_number kind)).across (marks_of marks) (λ k. get_or modes k 0) d k

-- a number above 2 counts as 2
pub predictor_lesser : (n : ℕ) → predictor_for (min n 2) ≡ predictor_for n
predictor_lesser zero = refl
predictor_lesser (suc zero) = refl
predictor_lesser (suc (suc j)) = let two : min (suc (suc j)) 2 ≡ 2 = omega arith in ap predictor_for two
