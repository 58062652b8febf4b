-- The figures of a coefficient alone at place 0 of an 8x8 block: its rounding, 64 times. Assumes nothing.
use Rattle.std.proofs.Common.{pos}
use Rattle.laws.specs.Range.{minus}
use Rattle.residual.specs.Inverse.{rounded}
use Rattle.transform_8x8.proofs.Flat.{flat}
use Rattle.figures.specs.Figures.{FlatFigures}

pub flat_figures : FlatFigures
unfolding rounded
flat_figures = record { of_64 = flat.flat (pos 64); of_31 = flat.flat (pos 31); of_minus_33 = flat.flat (minus 33) }
