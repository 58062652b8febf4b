-- What turning a block on its side says of 4x4 and 8x8 luma prediction, once over the side.
use Rattle.std.specs.Prelude.{◌≡◌, Bool, true, false, List, ◌++◌, ℕ, ◌*◌, ◌≤◌, length, get_or}
use Rattle.basics.specs.Marks.{permitted_nxn}
use Rattle.basics.specs.Near.{Near}
use Rattle.intra_nxn.specs.IntraNxN.{pred8x8_l}
use Rattle.turned.specs.Case.{Case, Sized, turned_case, transposed, lent_answer, array_answer, lent_block, array_block}
use Rattle.turned.specs.Exchange.{partners, Any, Level, Transposes}

-- Of `pred`, by mode, marks, neighbourhood, column and row, for a block of side n. `Asks` is asked of a row above that is there, before and after the exchange
pub record TurnedBlock (n : ℕ) (pred : ℕ → Bool → Bool → Bool → Near → ℕ → ℕ → ℕ) (Asks : (ℕ → ℕ) → Type 0) : Type 0 where
  -- ---- the modes
  -- partners are permitted together, and predict transposed blocks
  pub permitted_together : (m m' : ℕ) → partners m m' ≡ true
      → (above left corner : Bool) → permitted_nxn left above corner m' ≡ permitted_nxn above left corner m
  pub partners_transpose : (m m' : ℕ) → partners m m' ≡ true → Transposes n pred Asks Asks m m'
  -- no other two modes do, vertical-left and horizontal-up among them
  pub no_others : (m m' : ℕ) → m ≤ 8 → m' ≤ 8 → partners m m' ≡ false → ¬ Transposes n pred Asks Asks m m'
  -- ---- the calls, of a case and of the same on its side
  -- one is refused exactly where the other is, and with the same number
  pub lent_answer_is : (c : Case) (m' : ℕ) (right : List ℕ) (lent : ℕ) → partners c.mode m' ≡ true → Sized n c → length right ≡ n
      → lent_answer n (turned_case n m' right c) lent ≡ lent_answer n c lent
  pub array_answer_is : (c : Case) (m' : ℕ) (right : List ℕ) → partners c.mode m' ≡ true
      → array_answer (turned_case n m' right c) ≡ array_answer c
  -- and its block is the block transposed, also where both are refused and the lent bytes are as they were, or zeros stand for it
  pub lent_block_is : (c : Case) (m' : ℕ) (right out : List ℕ) → partners c.mode m' ≡ true → Sized n c → length right ≡ n → length out ≡ n * n
      → (c.avail_top ≡ true → Asks (λ k. get_or c.top k 0)) → (c.avail_left ≡ true → Asks (λ k. get_or (c.left ++ right) k 0))
      → lent_block n pred (turned_case n m' right c) (transposed n out) ≡ transposed n (lent_block n pred c out)
  pub array_block_is : (c : Case) (m' : ℕ) (right : List ℕ) → partners c.mode m' ≡ true → Sized n c
      → (c.avail_top ≡ true → Asks (λ k. get_or c.top k 0)) → (c.avail_left ≡ true → Asks (λ k. get_or (c.left ++ right) k 0))
      → array_block n pred (turned_case n m' right c) ≡ transposed n (array_block n pred c)

-- 8x8 asks that above sample 8 equals above sample 7; without it before the exchange, or without it after, vertical and horizontal do not transpose
pub record LevelNeeded : Type 0 where
  pub before_exchange : ¬ Transposes 8 pred8x8_l Any (Level 8) 0 1
  pub after_exchange : ¬ Transposes 8 pred8x8_l (Level 8) Any 1 0
