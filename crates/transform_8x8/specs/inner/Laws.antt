-- What the 8x8 transform has of a transform of blocks.
use Rattle.std.specs.Prelude.{refl, ◌&&◌, ◌<◌}
use Rattle.std.proofs.Common.{lit<, subst}
use Rattle.laws.specs.Range.{at}
use Rattle.laws.specs.Table.{all_below}
use Rattle.laws.proofs.Tests.{and_left, all_at}
use Rattle.numbers.specs.Numbers.{in_range, last_in_range}
use Rattle.numbers.proofs.InRange.{all_true}
use Rattle.residual.specs.Quads.{InQuads}
use Rattle.transform_8x8.specs.Inverse8x8.{e_row, f_row, g_row, h_column, k_column, m_column, in_range8x8}

pub of_64 : InQuads 64 in_range8x8
unfolding in_range8x8
of_64 = record {
  blocks = 1;
  some = lit< tt;
  whole = refl;
  numbers = λ d n e.
      let rows = all_below 8 (λ i. all_below 8 (λ j. in_range (at (e_row d i) j) && in_range (at (f_row d i) j) && in_range (at (g_row d i) j))) in
      let columns = all_below 8 (λ j. all_below 8 (λ i. in_range (at (h_column d j) i) && in_range (at (k_column d j) i) && last_in_range (at (m_column d j) i))) in
      let first = all_below 64 (λ k. in_range (at d k)) in
      all_true d (λ k h. all_at 64 (λ k. in_range (at d k)) (and_left first rows (and_left (first && rows) columns e)) k (subst (λ m. k < m) n h));
}
