-- Intra 4x4 and 8x8 luma prediction, clauses 8.3.1.2 and 8.3.2.2, over the block's side n, 4 or 8.
-- The nine modes read p i 0 for i to 2n and p 0 j for j to n, and nothing else.
use Rattle.std.specs.Prelude.{Bool, true, false, cond, ◌&&◌, ℕ, ◌+◌, ◌-◌, ◌*◌, ◌/◌, ◌%◌, eqb, ltb, leb}
use Rattle.basics.specs.Near.{Near, vertical, horizontal, dc}

-- the two rounded means that the directional modes take
abbrev pub mean2 : ℕ → ℕ → ℕ
mean2 a b = (a + b + 1) / 2

abbrev pub mean3 : ℕ → ℕ → ℕ → ℕ
mean3 a b c = (a + 2 * b + c + 2) / 4

-- 8.3.1.2.4, 8.3.2.2.5: Diagonal_Down_Left
unfoldable pub down_left : ℕ → Near → ℕ → ℕ → ℕ
down_left n p x y =
    cond (eqb x (n - 1) && eqb y (n - 1))
    ((p (2 * n - 1) 0 + 3 * p (2 * n) 0 + 2) / 4)
    (mean3 (p (x + y + 1) 0) (p (x + y + 2) 0) (p (x + y + 3) 0))

-- 8.3.1.2.5, 8.3.2.2.6: Diagonal_Down_Right
unfoldable pub down_right : Near → ℕ → ℕ → ℕ
down_right p x y =
    cond (ltb y x)
    (mean3 (p (x - y - 1) 0) (p (x - y) 0) (p (x - y + 1) 0))
    (cond (ltb x y)
    (mean3 (p 0 (y - x - 1)) (p 0 (y - x)) (p 0 (y - x + 1)))
    (mean3 (p 1 0) (p 0 0) (p 0 1)))

-- 8.3.1.2.6, 8.3.2.2.7: Vertical_Right. zVR = 2x - y: at least 0 and even, at least 0 and odd, -1, and below.
-- (Below -1 the 4x4 clause has x = 0 and leaves the x out.)
unfoldable pub vertical_right : Near → ℕ → ℕ → ℕ
vertical_right p x y =
    cond (leb y (2 * x))
    (cond (eqb (y % 2) 0)
    (mean2 (p (x - y / 2) 0) (p (x - y / 2 + 1) 0))
    (mean3 (p (x - y / 2 - 1) 0) (p (x - y / 2) 0) (p (x - y / 2 + 1) 0)))
    (cond (eqb y (2 * x + 1))
    (mean3 (p 0 1) (p 0 0) (p 1 0))
    (mean3 (p 0 (y - 2 * x)) (p 0 (y - 2 * x - 1)) (p 0 (y - 2 * x - 2))))

-- 8.3.1.2.7, 8.3.2.2.8: Horizontal_Down. zHD = 2y - x: at least 0 and even, at least 0 and odd, -1, and below.
-- (Below -1 the 4x4 clause has y = 0 and leaves the y out.)
unfoldable pub horizontal_down : Near → ℕ → ℕ → ℕ
horizontal_down p x y =
    cond (leb x (2 * y))
    (cond (eqb (x % 2) 0)
    (mean2 (p 0 (y - x / 2)) (p 0 (y - x / 2 + 1)))
    (mean3 (p 0 (y - x / 2 - 1)) (p 0 (y - x / 2)) (p 0 (y - x / 2 + 1))))
    (cond (eqb x (2 * y + 1))
    (mean3 (p 0 1) (p 0 0) (p 1 0))
    (mean3 (p (x - 2 * y) 0) (p (x - 2 * y - 1) 0) (p (x - 2 * y - 2) 0)))

-- 8.3.1.2.8, 8.3.2.2.9: Vertical_Left
unfoldable pub vertical_left : Near → ℕ → ℕ → ℕ
vertical_left p x y =
    cond (eqb (y % 2) 0)
    (mean2 (p (x + y / 2 + 1) 0) (p (x + y / 2 + 2) 0))
    (mean3 (p (x + y / 2 + 1) 0) (p (x + y / 2 + 2) 0) (p (x + y / 2 + 3) 0))

-- 8.3.1.2.9, 8.3.2.2.10: Horizontal_Up. zHU = x + 2y: below 2n - 3 (5 and 13) and even, or odd, 2n - 3, and above
unfoldable pub horizontal_up : ℕ → Near → ℕ → ℕ → ℕ
horizontal_up n p x y =
    cond (ltb (x + 2 * y) (2 * n - 3))
    (cond (eqb (x % 2) 0)
    (mean2 (p 0 (y + x / 2 + 1)) (p 0 (y + x / 2 + 2)))
    (mean3 (p 0 (y + x / 2 + 1)) (p 0 (y + x / 2 + 2)) (p 0 (y + x / 2 + 3))))
    (cond (eqb (x + 2 * y) (2 * n - 3)) ((p 0 (n - 1) + 3 * p 0 n + 2) / 4) (p 0 n))

-- the sample in column x and row y of a block of side n, in each mode: Tables 8-2 and 8-3
unfoldable pub pred_nxn : ℕ → ℕ → Bool → Bool → Near → ℕ → ℕ → ℕ
pred_nxn n mode above left p x y =
    cond (eqb mode 0) (vertical p x y)
    (cond (eqb mode 1) (horizontal p x y)
    (cond (eqb mode 2) (dc n above left p)
    (cond (eqb mode 3) (down_left n p x y)
    (cond (eqb mode 4) (down_right p x y)
    (cond (eqb mode 5) (vertical_right p x y)
    (cond (eqb mode 6) (horizontal_down p x y)
    (cond (eqb mode 7) (vertical_left p x y)
    (horizontal_up n p x y))))))))

-- 8.3.2.2.1: p', the neighbourhood of an 8x8 block after its filter, from the marks of above, left and corner. A side's samples are s 1, .., s last,
-- counted from the corner, s 0
unfoldable pub filtered_side : ℕ → Bool → (ℕ → ℕ) → ℕ → ℕ
filtered_side last corner s i =
    cond (eqb i 1) (cond corner (mean3 (s 0) (s 1) (s 2)) ((3 * s 1 + s 2 + 2) / 4))
    (cond (eqb i last) ((s (last - 1) + 3 * s last + 2) / 4)
    (mean3 (s (i - 1)) (s i) (s (i + 1))))

unfoldable pub filtered_corner : Bool → Bool → Near → ℕ
filtered_corner true true p = mean3 (p 1 0) (p 0 0) (p 0 1)
filtered_corner true false p = (3 * p 0 0 + p 1 0 + 2) / 4
filtered_corner false true p = (3 * p 0 0 + p 0 1 + 2) / 4
filtered_corner false false p = p 0 0

unfoldable pub filtered : ℕ → Bool → Bool → Bool → Near → Near
filtered n above left corner p i j =
    cond (eqb j 0)
    (cond (eqb i 0) (filtered_corner above left p) (filtered_side (2 * n) corner (λ k. p k 0) i))
    (filtered_side n corner (λ k. p 0 k) j)

-- 8.3.1.2: pred4x4_l[ x, y ]
abbrev pub pred4x4_l : ℕ → Bool → Bool → Bool → Near → ℕ → ℕ → ℕ
pred4x4_l mode above left corner p = pred_nxn 4 mode above left p

-- 8.3.2.2: pred8x8_l[ x, y ]
abbrev pub pred8x8_l : ℕ → Bool → Bool → Bool → Near → ℕ → ℕ → ℕ
pred8x8_l mode above left corner p = pred_nxn 8 mode above left (filtered 8 above left corner p)
