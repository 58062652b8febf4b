-- 4x4 and 8x8 luma prediction on their side, both from one theorem over the side. That no other modes transpose is computed from one case for each side, the
-- samples of the rules' figures and twice as many. Assumes nothing.
use mathlib.Core.Path.{◌≡◌, refl, ap}
use mathlib.Core.Bool.{Bool, true, false, not, cond, ◌||◌}
use mathlib.Core.List.{List, [], ◌∷◌}
use Prim.Native.Nat.{ℕ, ◌*◌, ◌/◌, ◌%◌, ◌≤◌}
use native.Mathlib.Omega.{arith}
use native.Mathlib.Nat.{mod-lt, div-lt_iff_lt-mul}
use lib.Dec.{eqb, lit≤}
use lib.ListN.{get_or}
use borrow.Author.Tests.{eq-eqb}
use Rattle.laws.specs.Table.{sum_of, all_below}
use Rattle.laws.proofs.Tests.{all_at, all_of_lem, not_both, or_either}
use Rattle.intra_nxn.specs.IntraNxN.{pred_nxn, pred4x4_l, pred8x8_l, filtered, filtered_side, filtered_corner}
use Rattle.intra_nxn.specs.IntraNxN.{down_left, down_right, vertical_right, horizontal_down, vertical_left, horizontal_up}
use Rattle.basics.specs.Marks.{permitted_nxn}
use Rattle.basics.specs.Near.{Near, near, mean, dc}
use Rattle.turned.specs.Exchange.{partners, Exchanged, on_side, row_above, Any, Level, Transposes}
use Rattle.turned.specs.TurnedBlock.{TurnedBlock, LevelNeeded}
use Rattle.turned.proofs.Case.{same_lent, same_array, turned_lent, turned_array}
use Rattle.turned.proofs.Exchange.{permitted_on_side, back, transposes, kept_filtered}

on_its_side : {n : ℕ} (p : Near) → Exchanged n true true true p (on_side p)
on_its_side p = record { to_left = λ h i s k. refl; to_above = λ h i s k. refl; same_corner = λ h. refl }

-- ---- no other modes, by a case that is computed
abbrev Others : (n : ℕ) → (ℕ → Bool → Bool → Bool → Near → ℕ → ℕ → ℕ) → ((ℕ → ℕ) → Type 0) → Type 0
Others n pred Asks = (m m' : ℕ) → m ≤ 8 → m' ≤ 8 → partners m m' ≡ false → ¬ Transposes n pred Asks Asks m m'

-- where all is marked, every mode is permitted
every : (m : ℕ) → m ≤ 8 → permitted_nxn true true true m ≡ true
unfolding all_below
every m h = all_at 9 (permitted_nxn true true true) refl m (omega arith)

module _ (n : ℕ) (pred : ℕ → Bool → Bool → Bool → Near → ℕ → ℕ → ℕ) (p : Near) where
  -- at sample k m' predicts from p on its side what m predicts from p
  agrees : ℕ → ℕ → ℕ → Bool
  agrees m m' k = eqb (pred m' true true true (on_side p) (k / n) (k % n)) (pred m true true true p (k % n) (k / n))

  -- p tells m and m' apart, unless they are partners
  tells : ℕ → ℕ → Bool
  tells m m' = partners m m' || not (all_below (n * n) (agrees m m'))

  computed : (Asks : (ℕ → ℕ) → Type 0) → 1 ≤ n → Asks (row_above p) → Asks (row_above (on_side p)) → all_below 9 (λ m. all_below 9 (tells m)) ≡ true
      → Others n pred Asks
  unfolding agrees tells
  computed Asks some ask ask' test m m' h h' off t = or_either _ _ (λ e. not_both e off) (λ e. not_both e (ap not same)) cell
    where
      cell : tells m m' ≡ true
      cell = all_at 9 (tells m) (all_at 9 (λ m. all_below 9 (tells m)) test m (omega arith)) m' (omega arith)

      same : all_below (n * n) (agrees m m') ≡ true
      same = all_of_lem (n * n) (agrees m m') (λ k l. eq-eqb _ _
          (t true true true p (on_side p) (every m h) (every m' h') (on_its_side p) (λ _. ask) (λ _. ask')
          (k % n) (k / n) (mod-lt k some) ((div-lt_iff_lt-mul some).1 l)))

-- the samples of the rules' figures, and for 8x8 twice as many, with what is asked of above sample 8, before the exchange and after it
case4 : Near
case4 = near (10 ∷ 20 ∷ 30 ∷ 40 ∷ 50 ∷ 60 ∷ 70 ∷ 80 ∷ []) (12 ∷ 24 ∷ 36 ∷ 48 ∷ []) 6

case8 : Near
case8 =
    near (10 ∷ 20 ∷ 30 ∷ 40 ∷ 50 ∷ 60 ∷ 70 ∷ 80 ∷ 80 ∷ 160 ∷ 160 ∷ 160 ∷ 160 ∷ 160 ∷ 160 ∷ 160 ∷ [])
    (12 ∷ 24 ∷ 36 ∷ 48 ∷ 60 ∷ 72 ∷ 84 ∷ 96 ∷ 96 ∷ []) 6

others_4x4 : Others 4 pred4x4_l Any
unfolding agrees tells all_below case4 near pred_nxn sum_of mean dc down_left down_right vertical_right horizontal_down vertical_left horizontal_up
others_4x4 = computed 4 pred4x4_l case4 Any (lit≤ tt) tt tt refl

others_8x8 : Others 8 pred8x8_l (Level 8)
unfolding agrees tells all_below case8 near pred_nxn sum_of mean dc down_left down_right vertical_right horizontal_down vertical_left horizontal_up filtered filtered_side filtered_corner
others_8x8 = computed 8 pred8x8_l case8 (Level 8) (lit≤ tt) refl refl refl

-- ---- once over the side, of a prediction from a neighbourhood that is changed in a way that keeps an exchange
module _ (n : ℕ) (two : 2 ≤ n) (Asks : (ℕ → ℕ) → Type 0)
    (asked : (top left : List ℕ) (corner : ℕ) → Asks (λ k. get_or top k 0) → Asks (row_above (near top left corner)))
    (change : Bool → Bool → Bool → Near → Near)
    (keeps : (a l c : Bool) (p q : Near) → Exchanged n a l c p q → (a ≡ true → Asks (row_above p)) → (l ≡ true → Asks (row_above q))
    → Exchanged n a l c (change a l c p) (change l a c q)) where
  abbrev pred : ℕ → Bool → Bool → Bool → Near → ℕ → ℕ → ℕ
  pred m a l c p = pred_nxn n m a l (change a l c p)

  transpose : (m m' : ℕ) → partners m m' ≡ true → Transposes n pred Asks Asks m m'
  transpose m m' pair a l c p q ok ok' e ask ask' x y hx hy = transposes n two a l c _ _ (keeps a l c p q e ask ask') m m' pair ok ok' x y hx hy

  turned : Others n pred Asks → TurnedBlock n pred Asks
  turned others =
      record {
        permitted_together = permitted_on_side;
        partners_transpose = transpose;
        no_others = others;
        lent_answer_is = λ c m' right lent pair sized r. same_lent n pred Asks asked transpose c m' right pair sized lent r;
        array_answer_is = λ c m' right pair. same_array n c m' right pair;
        lent_block_is = λ c m' right out pair sized r e ask ask'. turned_lent n pred Asks asked transpose c m' right pair sized ask ask' out r e;
        array_block_is = λ c m' right pair sized ask ask'. turned_array n pred Asks asked transpose c m' right pair sized ask ask';
      }

pub turned_4x4 : TurnedBlock 4 pred4x4_l Any
turned_4x4 = turned 4 (lit≤ tt) Any (λ top left corner _. tt) (λ a l c p. p) (λ a l c p q e _ _. e) others_4x4

pub turned_8x8 : TurnedBlock 8 pred8x8_l (Level 8)
unfolding near
turned_8x8 = turned 8 (lit≤ tt) (Level 8) (λ top left corner e. e) (filtered 8) (kept_filtered 8 (lit≤ tt)) others_8x8

-- ---- what 8x8 asks is needed: above sample 8 is 80 and every other sample 0, so that above sample 7 becomes 20 in the filter, and left sample 7 stays 0
bump : Near
bump i j = cond (eqb i 9) 80 0

pub level_needed : LevelNeeded
unfolding bump pred_nxn filtered filtered_side
level_needed =
    record {
      before_exchange = λ t.
          let z : ◌≡◌ {A = ℕ} 0 20 = t true true true bump (on_side bump) refl refl (on_its_side bump) (λ _. tt) (λ _. refl) 7 0 (lit≤ tt) (lit≤ tt) in
          omega arith;
      after_exchange = λ t.
          let z : ◌≡◌ {A = ℕ} 20 0 = t true true true (on_side bump) bump refl refl (back (on_its_side bump)) (λ _. refl) (λ _. tt) 0 7 (lit≤ tt) (lit≤ tt) in
          omega arith;
    }
