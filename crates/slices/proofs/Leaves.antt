-- What a call leaves, by its answer: a refused one everything, an accepted one all but its macroblock, its mark and the progress record. Assumes nothing.
use mathlib.Core.Path.{◌≡◌, refl, sym, ap, subst}
use mathlib.Core.Bool.{true}
use Prim.Native.Nat.{ℕ, zero, suc, ◌<◌}
use native.Mathlib.Omega.{arith}
use lib.Dec.{T, eqb, leb}
use lib.ListN.{get_or, length, length-set}
use lib.Seq.{get_or-set_same, get_or-set_other}
use borrow.Author.Tests.{le-leb}
use Rattle.laws.specs.Answer.{written}
use Rattle.laws.proofs.Answers.{put}
use Rattle.order.specs.Driver.{after}
use Rattle.maps.specs.Done.{is_done}
use Rattle.maps.proofs.Sizes.{address_inside}
use Rattle.macroblock.specs.Square.{in_block}
use Rattle.calls.specs.Planes.{Plane, side}
use Rattle.calls.specs.Rebuild.{Call, Lent, here, answer_to, rebuilt}
use Rattle.calls.specs.Run.{driver}
use Rattle.calls.proofs.OnePicture.{accepted_passed}
use Rattle.calls.proofs.Squares.{square_local}

-- what holds after a call that is accepted, and after one that leaves everything
pub by_answer : (c : Call) (s : Lent) (P : Lent → Type 0) → (answer_to c s ≡ 0 → P (rebuilt c s)) → P s → P (after driver c s)
by_answer c s P f x = go (answer_to c s) f
  where
    go : (r : ℕ) → (r ≡ 0 → P (rebuilt c s)) → P (written r s (rebuilt c s))
    go zero f = f refl
    go (suc r) f = x

module _ (c : Call) (s : Lent) (e : answer_to c s ≡ 0) where
  pub leaves : after driver c s ≡ rebuilt c s
  leaves = put s (rebuilt c s) e

  pub in_map : here c < length s.done
  in_map =
      let g = accepted_passed c s e in
      subst (λ n. here c < n) (sym g.room.done_long) (address_inside c.width c.height c.x c.y g.place)

  -- the planes
  pub keeps_bytes : (p : Plane) → length ((rebuilt c s).planes p) ≡ length (s.planes p)
  keeps_bytes p = let g = accepted_passed c s e in (square_local c (λ q. length (s.planes q)) g.room.planes g.place p).keeps (s.planes p)

  pub keeps_samples : (p : Plane) (i : ℕ) → ¬ T (in_block (side p) (c.stride p) c.y c.x i) → get_or ((rebuilt c s).planes p) i 0 ≡ get_or (s.planes p) i 0
  keeps_samples p i out =
      let g = accepted_passed c s e in (square_local c (λ q. length (s.planes q)) g.room.planes g.place p).writes (s.planes p) i refl out

  -- the done map
  pub keeps_long : length (rebuilt c s).done ≡ length s.done
  keeps_long = length-set s.done (here c) 1

  pub keeps_mark : (b : ℕ) → ¬ (b ≡ here c) → get_or (rebuilt c s).done b 0 ≡ get_or s.done b 0
  keeps_mark b d = get_or-set_other s.done (here c) b 1 0 d

  pub mark_here : is_done (rebuilt c s).done (here c) ≡ true
  mark_here = ap (λ v. eqb v 1) (get_or-set_same s.done (here c) 1 0 in_map)

  -- the count: small enough before and after
  pub few_before : leb s.progress.count (length s.done) ≡ true
  few_before = let g = accepted_passed c s e in le-leb s.progress.count (length s.done) (omega (arith, g.room.few, g.room.done_long))

  pub few_after : leb (rebuilt c s).progress.count (length (rebuilt c s).done) ≡ true
  few_after = le-leb (rebuilt c s).progress.count (length (rebuilt c s).done) (omega (arith, keeps_long, (accepted_passed c s e).room.done_long))
