-- Chroma quantisation parameters, clause 8.5.8 with chroma_qp_index_offset 0: Table 8-15.
use Rattle.std.specs.Prelude.{cond, List, [], ◌∷◌, ℕ, ◌-◌, min, ltb, get_or}

-- Table 8-15: QPc for qPI from 30 to 51
unfoldable pub table815 : List ℕ
table815 = 29 ∷ 30 ∷ 31 ∷ 32 ∷ 32 ∷ 33 ∷ 34 ∷ 34 ∷ 35 ∷ 35 ∷ 36 ∷ 36 ∷ 37 ∷ 37 ∷ 37 ∷ 38 ∷ 38 ∷ 38 ∷ 39 ∷ 39 ∷ 39 ∷ 39 ∷ []

-- below 30 itself, then the table, and from 51 up its last entry
unfoldable pub QPc : ℕ → ℕ
QPc qPI = cond (ltb qPI 30) qPI (get_or table815 (min (qPI - 30) 21) 0)
