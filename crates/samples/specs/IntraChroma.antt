-- Intra prediction of the 8x8 chroma samples of 4:2:0, clause 8.3.4.
use Rattle.std.specs.Prelude.{Bool, cond, not, ◌&&◌, ℕ, ◌+◌, ◌*◌, ◌/◌, eqb, ltb}
use Rattle.laws.specs.Table.{sum_of}
use Rattle.basics.specs.Near.{Near, vertical, horizontal, mean}
use Rattle.samples.specs.PlaneMode.{plane}

-- 8.3.4.1: the 4x4 region whose first sample is in column xO and row yO. Region (4, 0) takes left only where above is absent, and
-- region (0, 4) above only where left is absent
unfoldable pub region_dc : Bool → Bool → Near → ℕ → ℕ → ℕ
region_dc above left p xO yO =
    let a = sum_of 4 (λ x. p (xO + x + 1) 0) in
    let l = sum_of 4 (λ y. p 0 (yO + y + 1)) in
    cond (ltb 0 xO && eqb yO 0) (mean 4 above (left && not above) a l)
    (cond (eqb xO 0 && ltb 0 yO) (mean 4 (above && not left) left a l)
    (mean 4 above left a l))

abbrev pub chroma_dc : Bool → Bool → Near → ℕ → ℕ → ℕ
chroma_dc above left p x y = region_dc above left p (x / 4 * 4) (y / 4 * 4)

-- pred_c[ x, y ] in each mode of Table 8-5: 0 DC, 1 horizontal, 2 vertical, 3 plane
unfoldable pub pred_c : ℕ → Bool → Bool → Near → ℕ → ℕ → ℕ
pred_c mode above left p x y =
    cond (eqb mode 0) (chroma_dc above left p x y)
    (cond (eqb mode 1) (horizontal p x y)
    (cond (eqb mode 2) (vertical p x y)
    (plane 4 34 p x y)))
