-- Rectangles of samples in a list.
use Rattle.std.specs.Prelude.{◌≡◌, Bool, cond, ◌&&◌, ◌⊎◌, List, ℕ, ◌+◌, ◌*◌, ◌-◌, ◌/◌, ◌%◌, ◌≤◌, ltb, leb}
use Rattle.laws.specs.Patch.{patch}

-- a list of n samples has `height` rows of `width` samples from `off` on, `stride` apart
pub record RectIn (width height off stride n : ℕ) : Type 0 where
  pub inside : off + (height - 1) * stride + width ≤ n

-- place i lies in them
abbrev pub in_rect : (width height off stride i : ℕ) → Bool
in_rect width height off stride i = leb off i && ltb ((i - off) / stride) height && ltb ((i - off) % stride) width

-- the list with these put anew: u i j in column i and row j
abbrev pub put_rect : (width height off stride : ℕ) → (ℕ → ℕ → ℕ) → List ℕ → List ℕ
put_rect width height off stride u l = patch (in_rect width height off stride) (λ i. u ((i - off) % stride) ((i - off) / stride)) l

-- the same where it is marked
abbrev pub put_rect_if : Bool → (width height off stride : ℕ) → (ℕ → ℕ → ℕ) → List ℕ → List ℕ
put_rect_if mark width height off stride u l = cond mark (put_rect width height off stride u l) l

-- a macroblock's side in a plane
abbrev pub Half : ℕ → Type 0
Half q = (q ≡ 8) ⊎ (q ≡ 16)
