-- The three planes of a picture, and the memory that is lent for it.
use Rattle.std.specs.Prelude.{Bool, ◌&&◌, ℕ, ◌+◌, ◌*◌, ◌-◌, eqb, leb}
use Rattle.maps.specs.Size.{total}

pub data Plane : Type 0 where
  luma cb cr : Plane

-- a value for each plane
abbrev pub three : {A : Type 0} → A → A → A → Plane → A
three a b c luma = a
three a b c cb = b
three a b c cr = c

-- a macroblock's side in each plane
abbrev pub side : Plane → ℕ
side = three 16 8 8

-- macroblocks of side k: the stride is at least the plane's width and at most 4096, and the plane has at least (height - 1) * stride + width bytes
unfoldable pub plane_ok : (k w h stride bytes : ℕ) → Bool
plane_ok k w h stride bytes = leb (k * w) stride && leb stride 4096 && leb ((k * h - 1) * stride + k * w) bytes

-- the planes, the done map and the slice map of W * H entries each, and a count of at most W * H
unfoldable pub room_ok : (w h : ℕ) → (stride bytes : Plane → ℕ) → (done slices accepted : ℕ) → Bool
room_ok w h stride bytes done slices accepted =
    plane_ok (side luma) w h (stride luma) (bytes luma)
    && plane_ok (side cb) w h (stride cb) (bytes cb)
    && plane_ok (side cr) w h (stride cr) (bytes cr)
    && eqb done (total w h)
    && eqb slices (total w h)
    && leb accepted (total w h)
