-- Pictures of W by H macroblocks, and the places in them.
use Rattle.std.specs.Prelude.{Bool, ◌&&◌, ℕ, ◌+◌, ◌*◌, ◌≤◌, ◌<◌, leb, ltb}
use Rattle.laws.specs.Answer.{Check, ◌unless◌}

-- how many macroblocks there are, and the address of the one in column x and row y
abbrev pub total : ℕ → ℕ → ℕ
total w h = h * w

abbrev pub address : ℕ → ℕ → ℕ → ℕ
address w x y = y * w + x

-- W is 1..120, and H is 1..68: as a test, and as facts
unfoldable pub size_ok : ℕ → ℕ → Bool
size_ok w h = leb 1 w && leb w 120 && leb 1 h && leb h 68

pub record Size (w h : ℕ) : Type 0 where
  pub some_w : 1 ≤ w
  pub most_w : w ≤ 120
  pub some_h : 1 ≤ h
  pub most_h : h ≤ 68

-- (x, y) is a macroblock of the picture
unfoldable pub place_ok : (w h x y : ℕ) → Bool
place_ok w h x y = ltb x w && ltb y h

pub record Stands (w h x y : ℕ) : Type 0 where
  pub in_w : x < w
  pub in_h : y < h

-- ---- the rules
abbrev pub size_rule : (w h : ℕ) → Check
size_rule w h = 1 unless size_ok w h

abbrev pub place_rule : (w h x y : ℕ) → Check
place_rule w h x y = 3 unless place_ok w h x y
