-- A macroblock is rebuilt alike wherever it stands: from the same record and marks, and the same samples around it, at another place, in planes of another
-- stride and another length.
use Rattle.std.specs.Prelude.{◌≡◌, Bool, true, List, ℕ, ◌+◌, ◌*◌, ◌-◌, ◌<◌, T, get_or, length}
use Rattle.maps.specs.Neighbours.{Side}
use Rattle.maps.specs.Neighbours.Side.{A, B, C, D}
use Rattle.macroblock.specs.Kinds.{luma_square, cb_square, cr_square}
use Rattle.macroblock.specs.Rules.{room}
use Rattle.macroblock.specs.declared.Record.{Record}

-- a plane with its stride, and a macroblock's place in it
pub record Site : Type 0 where
  pub stride : ℕ
  pub x : ℕ
  pub y : ℕ
  pub plane : List ℕ

-- the sample in a column and a row of the plane
abbrev pub seen : Site → (column row : ℕ) → ℕ
seen u column row = get_or u.plane (row * u.stride + column) 0

-- the samples of a neighbour that touch the square of side q: the last column of A, the last row of B and of C, and the last sample of D
abbrev pub touching : ℕ → Site → Side → ℕ → ℕ
touching q u A t = seen u (u.x * q - 1) (u.y * q + t)
touching q u B t = seen u (u.x * q + t) (u.y * q - 1)
touching q u C t = seen u ((u.x + 1) * q + t) (u.y * q - 1)
touching q u D t = seen u (u.x * q - 1) (u.y * q - 1)

-- at two places the marked neighbours show the same
abbrev pub SameAround : ℕ → (Side → Bool) → Site → Site → Type 0
SameAround q marks u v = (d : Side) → T (marks d) → (t : ℕ) → t < q → touching q u d t ≡ touching q v d t

-- rule 2 of the macroblock call
abbrev pub HasRoom : ℕ → (Side → Bool) → Site → Type 0
HasRoom q marks u = room q (length u.plane) u.stride u.x u.y marks ≡ true

-- the sample in column i and row j of the square of side q, in a plane
abbrev pub square_at : ℕ → Site → List ℕ → (i j : ℕ) → ℕ
square_at q u plane i j = get_or plane ((u.y * q + j) * u.stride + (u.x * q + i)) 0

-- a step, which is given place, stride and plane, leaves the same square at both
abbrev pub SameLeft : ℕ → ((x y stride : ℕ) → List ℕ → List ℕ) → Site → Site → Type 0
SameLeft q step u v = (i j : ℕ) → i < q → j < q
    → square_at q u (step u.x u.y u.stride u.plane) i j ≡ square_at q v (step v.x v.y v.stride v.plane) i j

pub record Moved (marks : Side → Bool) (r : Record) : Type 0 where
  pub luma : (u v : Site) → HasRoom 16 marks u → HasRoom 16 marks v → SameAround 16 marks u v → SameLeft 16 (λ x y s. luma_square x y marks r s) u v
  pub cb : (u v : Site) → HasRoom 8 marks u → HasRoom 8 marks v → SameAround 8 marks u v → SameLeft 8 (λ x y s. cb_square x y marks r s) u v
  pub cr : (u v : Site) → HasRoom 8 marks u → HasRoom 8 marks v → SameAround 8 marks u v → SameLeft 8 (λ x y s. cr_square x y marks r s) u v
