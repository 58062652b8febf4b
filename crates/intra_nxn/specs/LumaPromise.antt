-- What a permitted 4x4 or 8x8 luma prediction reads, and how small and large its samples can be.
use Rattle.std.specs.Prelude.{◌≡◌, Bool, true, false, ◌||◌, ℕ, ◌*◌, ◌≤◌, ◌<◌}
use Rattle.basics.specs.Marks.{permitted_nxn}
use Rattle.basics.specs.Near.{Near, Agree}

pub record Between (lo hi v : ℕ) : Type 0 where
  pub low : lo ≤ v
  pub high : v ≤ hi

-- the samples on each side that is there lie between lo and hi: `wide` above and `tall` left
pub record SidesBetween (lo hi wide tall : ℕ) (above left corner : Bool) (p : Near) : Type 0 where
  pub on_above : above ≡ true → (i : ℕ) → 1 ≤ i → i ≤ wide → Between lo hi (p i 0)
  pub on_left : left ≡ true → (j : ℕ) → 1 ≤ j → j ≤ tall → Between lo hi (p 0 j)
  pub on_corner : corner ≡ true → Between lo hi (p 0 0)

-- of `pred`, by mode, marks, neighbourhood, column and row, for a block of side n
pub record LumaPromise (n : ℕ) (pred : ℕ → Bool → Bool → Bool → Near → ℕ → ℕ → ℕ) : Type 0 where
  -- the samples of an absent side are not read: neighbourhoods that differ only there give the same prediction
  pub absent_unread : (mode : ℕ) (above left corner : Bool) (p q : Near) (x y : ℕ) → permitted_nxn above left corner mode ≡ true → x < n → y < n
      → Agree (2 * n) n above left corner p q → pred mode above left corner p x y ≡ pred mode above left corner q x y
  -- a sample lies between the smallest and the largest sample of the sides that are there, whatever bounds are taken for these
  pub between_neighbours : (mode : ℕ) (above left corner : Bool) (p : Near) (lo hi x y : ℕ) → permitted_nxn above left corner mode ≡ true → x < n → y < n
      → (mode ≡ 2 → above || left ≡ true) → SidesBetween lo hi (2 * n) n above left corner p → Between lo hi (pred mode above left corner p x y)
  -- but for DC without above and left
  pub dc_alone : (corner : Bool) (p : Near) (x y : ℕ) → pred 2 false false corner p x y ≡ 128
