-- How many turns a picture takes, put together. Assumes nothing.
use mathlib.Core.Path.{◌≡◌}
use mathlib.Core.List.{List}
use Prim.Native.Nat.{ℕ}
use Rattle.laws.proofs.Answers.{passes_by}
use Rattle.maps.specs.Size.{Size, size_ok}
use Rattle.maps.proofs.Sizes.{size_is}
use Rattle.turn_count.specs.Count.{turn_count_answer}
use Rattle.turn_count.specs.HowMany.{HowMany}
use Rattle.turn_count.proofs.After.{done_due, listed_due, row_due, count_last, finished, some, least, most}
use Rattle.turn_count.proofs.Due.{recurrence}
use Rattle.turn_count.proofs.OneSlice.{wide_due, wide, narrow_due, narrow}

pub how_many : (w h : ℕ) (slices : List ℕ) → Size w h → HowMany w h slices
how_many w h slices s = record {
  recurrence = recurrence w slices;
  listed = listed_due w h slices;
  done = done_due w h slices;
  row_done = row_due w h slices s;
  finished = finished w h slices s;
  some = some w h slices s;
  last = count_last w h slices s;
  least = least w h slices s;
  most = most w h slices s;
  wide_due = wide_due w h slices s;
  wide = wide w h slices s;
  narrow_due = narrow_due w h slices s;
  narrow = narrow w h slices s;
}

-- where the call counts, the size is good
pub counted : (w h : ℕ) (slices : List ℕ) (entries : ℕ) → turn_count_answer w h entries ≡ 0 → HowMany w h slices
unfolding turn_count_answer
counted w h slices entries e = how_many w h slices (size_is w h (passes_by 0 (size_ok w h) _ e).0)
