-- The order 0, 1, .., n - 1 is what an empty map leaves undone, so that it is permitted and fills the map. Assumes nothing.
use mathlib.Core.Path.{◌≡◌, refl, sym, ap, subst, ◌∙◌}
use mathlib.Core.List.{[], ◌∷◌, ◌++◌}
use Prim.Native.Nat.{ℕ, zero, suc, ◌+◌, ◌<◌}
use native.Mathlib.Nat.{add-zero}
use native.Mathlib.Omega.{arith}
use lib.ListN.{length, length-append, replicate, length-replicate}
use Rattle.laws.specs.Steps.{up_to}
use Rattle.order.specs.Order.{AllDone, build, marked, Permitted, undone_from, raster}
use Rattle.order.proofs.Orders.{build_append}
use Rattle.order.proofs.Undone.{undone_fills}

-- taken in that order, the steps leave what `up_to` says
pub build_raster : {M : Type 0} (step : ℕ → M → M) (n : ℕ) (p : M) → build step (raster n) p ≡ up_to step n p
unfolding up_to
build_raster step zero p = refl
build_raster step (suc n) p = build_append step (raster n) (n ∷ []) p ∙ ap (step n) (build_raster step n p)

pub length_raster : (n : ℕ) → length (raster n) ≡ n
length_raster zero = refl
length_raster (suc n) = omega (arith, length-append (raster n) (n ∷ []), length_raster n)

undone_last : (m k : ℕ) → undone_from k (replicate (suc m) 0) ≡ undone_from k (replicate m 0) ++ ((k + m) ∷ [])
undone_last zero k = ap (λ a. a ∷ []) (sym (add-zero k))
undone_last (suc m) k = ap (λ l. k ∷ l) (undone_last m (suc k) ∙ ap (λ a. undone_from (suc k) (replicate m 0) ++ (a ∷ [])) (omega arith))

raster_undone : (n : ℕ) → undone_from 0 (replicate n 0) ≡ raster n
raster_undone zero = refl
raster_undone (suc n) = undone_last n 0 ∙ ap (λ a. undone_from 0 (replicate n 0) ++ (a ∷ [])) (omega arith) ∙ ap (λ l. l ++ (n ∷ [])) (raster_undone n)

module _ (n : ℕ) (N : ℕ → ℕ → Type 0) (earlier : (a b : ℕ) → a < n → N a b → b < a) where
  raster_fills : Permitted n N (raster n) (replicate n 0) × AllDone n (marked (raster n) (replicate n 0))
  raster_fills =
      subst (λ o. Permitted n N o (replicate n 0) × AllDone n (marked o (replicate n 0))) (raster_undone n)
      (undone_fills n N earlier (replicate n 0) (length-replicate n 0))

  pub raster_permitted : Permitted n N (raster n) (replicate n 0)
  raster_permitted = raster_fills.0

pub raster_done : (n : ℕ) → AllDone n (marked (raster n) (replicate n 0))
raster_done n = (raster_fills n (λ a b. ⊥) (λ a b h z. absurd z)).1
