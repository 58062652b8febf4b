-- Who is a neighbour of a macroblock, and where it stands. None of this looks at the done map.
use Rattle.std.specs.Prelude.{◌≡◌, Bool, true, ◌&&◌, List, ℕ, ◌+◌, ◌-◌, ◌/◌, ◌%◌, eqb, ltb, get_or, length}
use Rattle.maps.specs.Size.{total, address, size_ok, Size, place_ok}
use Rattle.maps.specs.declared.neighbours.Marks.{Marks}

-- 6.4.9: the neighbour macroblocks A, left, B, above, C, above and to the right, and D, above and to the left
pub data Side : Type 0 where
  A B C D : Side

-- which of them are available, by the four marks
abbrev pub marks_of : Marks → Side → Bool
marks_of m A = m.a
marks_of m B = m.b
marks_of m C = m.c
marks_of m D = m.d

-- where the neighbour of macroblock (x, y) stands
abbrev pub beside_x : ℕ → Side → ℕ
beside_x x A = x - 1
beside_x x B = x
beside_x x C = x + 1
beside_x x D = x - 1

abbrev pub beside_y : ℕ → Side → ℕ
beside_y y A = y
beside_y y B = y - 1
beside_y y C = y - 1
beside_y y D = y - 1

-- its address in a picture w wide
abbrev pub beside : (w x y : ℕ) → Side → ℕ
beside w x y k = address w (beside_x x k) (beside_y y k)

-- whether macroblock (x, y) of a picture w wide has one on that side
abbrev pub in_picture : (w x y : ℕ) → Side → Bool
in_picture w x y A = ltb 0 x
in_picture w x y B = ltb 0 y
in_picture w x y C = ltb 0 y && ltb (x + 1) w
in_picture w x y D = ltb 0 y && ltb 0 x

-- available: in the picture, and with the same slice number
abbrev pub available : (w : ℕ) → List ℕ → (x y : ℕ) → Side → Bool
available w slices x y k = in_picture w x y k && eqb (get_or slices (beside w x y k) 0) (get_or slices (address w x y) 0)

-- macroblock b is an available neighbour of macroblock a
abbrev pub Adjoins : (w : ℕ) → List ℕ → (a b : ℕ) → Type 0
Adjoins w slices a b = (k : Side) × (available w slices (a % w) (a / w) k ≡ true) × (beside w (a % w) (a / w) k ≡ b)

-- a picture of good size has an entry of the slice map for each macroblock
pub record SliceMap (w h : ℕ) (slices : List ℕ) : Type 0 where
  pub size : Size w h
  pub long : length slices ≡ total w h

-- rules 1 to 3 of a picture, a slice map of so many entries, and a place
unfoldable pub mapped : (w h entries x y : ℕ) → Bool
mapped w h entries x y = size_ok w h && eqb entries (total w h) && place_ok w h x y

-- the marks of macroblock (x, y), and none where one of these rules is broken
abbrev pub marks_at : (w h : ℕ) → List ℕ → (x y : ℕ) → Side → Bool
marks_at w h slices x y k = mapped w h (length slices) x y && available w slices x y k
