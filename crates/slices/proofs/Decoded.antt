-- A decoded picture: each macroblock has room, holds what it would be rebuilt to now, and its samples are in its region. Assumes nothing.
use mathlib.Core.Path.{◌≡◌, refl, sym, subst}
use mathlib.Core.Bool.{true}
use Prim.Native.Nat.{ℕ, ◌/◌, ◌%◌, ◌<◌}
use lib.ListN.{length}
use Rattle.laws.proofs.Digits.{placed}
use Rattle.order.specs.Order.{Alike}
use Rattle.order.proofs.AnyOrder.{ok_steps, fixed_steps}
use Rattle.macroblock.specs.Rules.{room}
use Rattle.macroblock.proofs.Places.{block_of_lem}
use Rattle.moved.specs.Moved.{Site, HasRoom}
use Rattle.calls.specs.Planes.{Plane, side}
use Rattle.calls.specs.Rebuild.{Lent, marks}
use Rattle.calls.specs.Run.{Picture, total_of, offer, Lends, Planes, decoded, sample_at, Region}
use Rattle.calls.proofs.OnePicture.{step, bytes, fits, place, laws}
use Rattle.calls.proofs.Squares.{square_wide, square_room, side_pos}
use Rattle.slices.specs.LostSlice.{location_of}

-- where a macroblock stands in each plane
abbrev pub site_of : Picture → Planes → ℕ → Plane → Site
site_of g planes a p = record { stride = g.stride p; x = a % g.width; y = a / g.width; plane = planes p }

module _ (g : Picture) (s : Lent) (lends : Lends g s) where
  long : (p : Plane) → length (decoded g s.planes p) ≡ length (s.planes p)
  long = ok_steps (laws g s lends) s.planes (λ q. refl)

  pub fixed : (a : ℕ) → a < total_of g → Alike sample_at (Region g a) (decoded g s.planes) (step g a (decoded g s.planes))
  fixed = fixed_steps (laws g s lends) s.planes (λ q. refl)

  pub has_room : (a : ℕ) → a < total_of g → (p : Plane) → HasRoom (side p) (marks (offer g a)) (site_of g (decoded g s.planes) a p)
  has_room a h p =
      subst (λ n. room (side p) n (g.stride p) (a % g.width) (a / g.width) (marks (offer g a)) ≡ true) (sym (long p))
      (square_room (side p) g.width g.height (g.stride p) (bytes g s lends p) (a % g.width) (a / g.width) (side_pos p) (fits g s lends p) (place g s lends a h) g.slices)

  -- a sample of a macroblock is in its region
  pub in_region : (a : ℕ) → a < total_of g → (p : Plane) (i j : ℕ) → i < side p → j < side p → Region g a (location_of g a p i j)
  in_region a h p i j hi hj =
      let n = (location_of g a p i j).1 in
      let z = placed (side p) (g.stride p) (a / g.width) (a % g.width) j i n hj hi
      (square_wide (side p) g.width g.height (g.stride p) (bytes g s lends p) (a % g.width) (a / g.width) (side_pos p) (fits g s lends p) (place g s lends a h)) refl in
      block_of_lem (side p) (g.stride p) (a / g.width) (a % g.width) n z.Y_is z.Z_is
