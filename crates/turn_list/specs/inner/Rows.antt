-- What private functions tell of rows.
use Rattle.std.specs.Prelude.{◌≡◌, Bool, List, ℕ, ◌<◌, eqb, length, get_or}
use Rattle.maps.specs.Size.{Size, total}
use Rattle.turn_list.specs.Turn.{gapless}

-- a byte of the done map says done
abbrev pub is_one : ℕ → Bool
is_one b = eqb b 1

-- a done map of a picture of good size that is as high as there are row counts
pub record Fitting (w : ℕ) (done rows : List ℕ) : Type 0 where
  pub size : Size w (length rows)
  pub long : length done ≡ total w (length rows)

-- the counts of all rows of a picture, each in agreement with its done map
pub record RowsAgree (w h : ℕ) (done rows : List ℕ) : Type 0 where
  pub high : length rows ≡ h
  pub each : (y : ℕ) → y < h → get_or rows y 0 ≡ gapless w done y
