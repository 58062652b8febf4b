-- What a macroblock call is refused for: refusals 2, 6, 7, 5 and 8 of docs/RULES.md, in its words.
use Rattle.std.specs.Prelude.{Bool, cond, not, ◌&&◌, ◌||◌, List, [], ◌∷◌, ◌++◌, ℕ, zero, suc, ◌+◌, ◌*◌, ◌-◌, eqb, ltb, leb, ℤ, get_or, length}
use Rattle.laws.specs.Answer.{Check, ◌unless◌, answer}
use Rattle.laws.specs.Table.{all_below}
use Rattle.basics.specs.Marks.{permitted_nxn, permitted16x16, permitted_chroma}
use Rattle.residual.specs.Inverse.{in_range4x4}
use Rattle.transform_8x8.specs.Inverse8x8.{in_range8x8}
use Rattle.maps.specs.Neighbours.{Side}
use Rattle.macroblock.specs.declared.Record.{Record}
use Rattle.macroblock.specs.declared.Strides.{Strides}
use Rattle.basics.specs.declared.marks.Sides.{Sides}
use Rattle.cut.specs.Cut.{cut_for, used, sides_of}
use Rattle.maps.specs.Neighbours.Side.{A, B, C, D}
use Rattle.macroblock.specs.Kinds.{coefficients}

-- 2: in a plane of `len` samples with stride s, at most 4096, lie the square of side q at (x, y) and each marked neighbour: A and D have a column of squares
-- before it, B, C and D a row above it, and C a column after it
unfoldable pub room : (q len s x y : ℕ) → (Side → Bool) → Bool
room q len s x y marks =
    leb s 4096
    && leb (x * q + q) s
    && leb ((y * q + (q - 1)) * s + (x * q + q)) len
    && (not (marks A) || ltb 0 x)
    && (not (marks B) || ltb 0 y)
    && (not (marks C) || (ltb 0 y && leb (x * q + q + q) s))
    && (not (marks D) || (ltb 0 x && ltb 0 y))

-- the same of the three planes
abbrev pub rooms : (x y luma_len cb_len cr_len : ℕ) → Strides → (Side → Bool) → Bool
rooms x y luma_len cb_len cr_len s marks = room 16 luma_len s.luma x y marks && room 8 cb_len s.cb x y marks && room 8 cr_len s.cr x y marks

-- 2: a macroblock has 16 modes, used or not, and 384 numbers
unfoldable pub lists_good : Record → Bool
lists_good r = eqb (length r.modes) 16 && eqb (length r.numbers) 384

-- 6: the kind is known, each mode that it uses is known, and each unused one is 0
abbrev pub last_mode : ℕ → ℕ
last_mode zero = 8
last_mode (suc zero) = 8
last_mode (suc (suc _)) = 3

abbrev pub mode_known : ℕ → List ℕ → ℕ → Bool
mode_known kind modes k = cond (ltb k (used kind)) (leb (get_or modes k 0) (last_mode kind)) (eqb (get_or modes k 0) 0)

unfoldable pub known : Record → Bool
known r = leb r.kind 2 && all_below 16 (mode_known r.kind r.modes) && leb r.chroma_mode 3

-- 7: each used mode is permitted where it stands, by the sides of its block that are there
abbrev pub permitted_for : ℕ → Sides → ℕ → Bool
permitted_for zero sides = permitted_nxn sides.above sides.left sides.corner
permitted_for (suc zero) sides = permitted_nxn sides.above sides.left sides.corner
permitted_for (suc (suc _)) sides = permitted16x16 sides.above sides.left sides.corner

abbrev pub permitted_at : ℕ → List ℕ → (Side → Bool) → ℕ → Bool
permitted_at kind modes marks k = permitted_for kind (sides_of (cut_for kind).across marks k) (get_or modes k 0)

unfoldable pub permitted : (Side → Bool) → Record → Bool
permitted marks r =
    all_below (used r.kind) (permitted_at r.kind r.modes marks) && permitted_chroma (marks B) (marks A) (marks D) r.chroma_mode

-- 8: each coefficient block is in range, its numbers and all values that 8.5.12.2 and 8.5.13.2 name on the way to its residuals: luma by kind, Cb and Cr
abbrev pub luma_in_range : ℕ → List ℤ → Bool
luma_in_range zero numbers = all_below 16 (λ b. in_range4x4 (coefficients 16 numbers b))
luma_in_range (suc zero) numbers = all_below 4 (λ k. in_range8x8 (coefficients 64 numbers k))
luma_in_range (suc (suc _)) numbers = all_below 16 (λ b. in_range4x4 (coefficients 16 numbers b))

abbrev pub chroma_in_range : List ℤ → Bool
chroma_in_range numbers = all_below 8 (λ b. in_range4x4 (coefficients 16 numbers (16 + b)))

unfoldable pub numbers_good : Record → Bool
numbers_good r = luma_in_range r.kind r.numbers && chroma_in_range r.numbers

-- ---- the lines of the call's table
abbrev pub room_rule : (rooms : Bool) → Check
room_rule rooms = 2 unless rooms

abbrev pub list_rule : Record → Check
list_rule r = 2 unless lists_good r

abbrev pub known_rule : Record → Check
known_rule r = 6 unless known r

abbrev pub permitted_rule : (Side → Bool) → Record → Check
permitted_rule marks r = 7 unless permitted marks r

abbrev pub numbers_rule : Record → Check
numbers_rule r = 8 unless numbers_good r

-- those that come before any number of the record is read
abbrev pub early_rules : (Side → Bool) → Record → List Check
early_rules marks r = list_rule r ∷ known_rule r ∷ permitted_rule marks r ∷ []

-- 5: the neighbours that the record waits for are done; which these are, the caller says
abbrev pub wait_rule : (ready : Bool) → Check
wait_rule ready = 5 unless ready

-- the call's answer
abbrev pub rebuild_answer : (rooms : Bool) → (Side → Bool) → (ready : Bool) → Record → ℕ
rebuild_answer rooms marks ready r = answer (room_rule rooms ∷ early_rules marks r ++ wait_rule ready ∷ numbers_rule r ∷ [])
