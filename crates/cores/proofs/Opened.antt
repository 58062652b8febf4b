-- What holds once the first rules of a call pass. Before commit each square of the block lies in its plane, and the macroblock's address in the maps; before
-- compute the macroblock call is given what it asks for. Assumes nothing.
use mathlib.Core.Path.{◌≡◌, ap, ◌∙◌}
use mathlib.Core.Bool.{Bool, true, ◌&&◌}
use mathlib.Core.List.{List}
use Prim.Native.Nat.{ℕ, ◌+◌, ◌*◌, ◌-◌, ◌<◌, ◌≤◌}
use borrow.Author.Tests.{eqb-true}
use lib.Dec.{eqb}
use lib.ListN.{length}
use Rattle.laws.specs.Answer.{answer, written}
use Rattle.laws.proofs.Tests.{and_left}
use Rattle.maps.specs.Done.{all_settled}
use Rattle.maps.specs.Neighbours.{Side, marks_at}
use Rattle.maps.specs.Size.{total}
use Rattle.maps.proofs.Beside.{marks_at_lem}
use Rattle.maps.proofs.Sizes.{total_most, address_inside}
use Rattle.macroblock.specs.Rules.{lists_good, rooms, rebuild_answer}
use Rattle.macroblock.specs.declared.Strides.{Strides}
use Rattle.waits.specs.Waits.{waits}
use Rattle.calls.specs.Planes.{Plane, side}
use Rattle.calls.specs.Planes.Plane.{luma, cb, cr}
use Rattle.calls.specs.Rebuild.{Call, Lent, here, marks, open_rules}
use Rattle.calls.proofs.Rules.{Opened, opened_is}
use Rattle.calls.proofs.Squares.{square_wide, square_long, side_pos, rooms_hold}
use Rattle.halves.specs.Halves.{block_good, commit_answer, samples_of, Computes}
use Rattle.halves.proofs.Computed.{opens, compute_late}
use Rattle.cores.specs.inner.Aside.{block_at}

-- ---- commit
module _ (d : Call) (s : Lent) (block : List ℕ) where
  pub record Within : Type 0 where
    pub block_long : length block ≡ 384
    pub square : (p : Plane)
        → (d.x * side p + side p ≤ d.stride p)
        × ((d.y * side p + (side p - 1)) * d.stride p + (d.x * side p + side p) ≤ length (s.planes p))
    pub address : here d < total d.width d.height
    pub most : total d.width d.height ≤ 8160
    pub done_long : length s.done ≡ total d.width d.height

  pub within : commit_answer d block s ≡ 0 → Within
  within e =
      let g = opened_is d s (block_good block) e in
      record {
        block_long = eqb-true (length block) 384 g.lists;
        square = λ p. (
          square_wide (side p) d.width d.height (d.stride p) (length (s.planes p)) d.x d.y (side_pos p) (g.room.planes p) g.place,
          square_long (side p) d.width d.height (d.stride p) (length (s.planes p)) d.x d.y (side_pos p) (g.room.planes p) g.place,
        );
        address = address_inside d.width d.height d.x d.y g.place;
        most = total_most d.width d.height g.size;
        done_long = g.room.done_long;
      }

-- ---- compute
module _ (d : Call) (s : Lent) (block : List ℕ) where
  -- what the first rules are asked is whether the block and both lists are long enough
  pub asked : {r : ℕ} {long lists : Bool} → r ≡ answer (open_rules d s long) → long ≡ (block_good block && lists)
      → lists ≡ (eqb (length d.mb.modes) 16 && eqb (length d.mb.numbers) 384) → r ≡ opens d s block
  unfolding lists_good
  asked e f g = e ∙ ap (λ b. answer (open_rules d s b)) (f ∙ ap (λ b. block_good block && b) g)

  module _ (e : opens d s block ≡ 0) {m : Side → Bool} (at : m ≡ marks_at d.width d.height d.slices d.x d.y) where
    passed : Opened d s (block_good block && lists_good d.mb)
    passed = opened_is d s _ e

    marks_right : m ≡ marks d
    marks_right = at ∙ marks_at_lem d.width d.height d.slices d.x d.y passed.size passed.room.slices_long passed.place

    abbrev strides : Strides
    strides = record { luma = d.stride luma; cb = d.stride cb; cr = d.stride cr }

    -- what is asked of the planes and of the block holds
    pub rooms_right : rooms d.x d.y (length (s.planes luma)) (length (s.planes cb)) (length (s.planes cr)) strides m ≡ true
    rooms_right =
        ap (λ m. rooms d.x d.y (length (s.planes luma)) (length (s.planes cb)) (length (s.planes cr)) strides m) marks_right
        ∙ rooms_hold d (λ p. length (s.planes p)) passed.room.planes passed.place

    pub block_right : length block ≡ 384
    block_right = eqb-true (length block) 384 (and_left (block_good block) (lists_good d.mb) passed.lists)

    -- what is left of the rules is the macroblock call's answer, and its block is the call's
    pub computed : {ready : Bool} {r : ℕ} {after : List ℕ} → ready ≡ all_settled d.width d.x d.y (waits m d.mb) s.done
        → r ≡ rebuild_answer true m ready d.mb
        → after ≡ written r block (block_at strides d.x d.y m d.mb (s.planes luma) (s.planes cb) (s.planes cr)) → Computes d s block r after
    unfolding samples_of
    computed {ready} {r} f a left =
        compute_late d s block e
        (a ∙ ap (λ m. rebuild_answer true m ready d.mb) marks_right
        ∙ ap (λ t. rebuild_answer true (marks d) t d.mb) (f ∙ ap (λ m. all_settled d.width d.x d.y (waits m d.mb) s.done) marks_right))
        (left ∙ ap (λ m. written r block (block_at strides d.x d.y m d.mb (s.planes luma) (s.planes cb) (s.planes cr))) marks_right)
