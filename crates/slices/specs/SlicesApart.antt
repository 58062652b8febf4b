-- What a bad slice can touch, for every picture, every slice and every call: the samples and marks of its own macroblocks, and the progress record.
use Rattle.std.specs.Prelude.{ℕ}
use Rattle.calls.specs.Run.{Picture}
use Rattle.slices.specs.Answers.{Answers}
use Rattle.slices.specs.LostSlice.{ShareSlice, LostSlice, AmongOthers}

pub record SlicesApart : Type 0 where
  pub samples : (σ : ℕ) (g g' : Picture) → ShareSlice σ g g' → LostSlice σ g g'
  pub among_others : (σ : ℕ) (g : Picture) → AmongOthers σ g
  pub answers : Answers
