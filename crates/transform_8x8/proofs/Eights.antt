-- Eight numbers, one by one. Assumes nothing.
use mathlib.Core.Path.{◌≡◌, ap}
use mathlib.Core.List.{List, [], ◌∷◌}
use Prim.Native.Nat.{ℕ, zero, suc, ◌<◌}
use native.Mathlib.Omega.{arith}
use lib.Dec.{T, leb, lit<}
use lib.IntN.{ℤ, pos}
use mir.Syntax.{w32}
use mir.Val.{to_z, of_z}
use Rattle.laws.specs.Range.{Within, AllWithin, at}
use Rattle.laws.specs.Table.{table}
use Rattle.laws.proofs.Tables.{get_d_table}
use Rattle.laws.proofs.Ints.{within_at}
use Rattle.transform_8x8.specs.Inverse8x8.{first_step, second_step, third_step, one_dimensional}

pub eight_is : {a b c d e f g h p q r s t u v w : ℤ} → a ≡ p → b ≡ q → c ≡ r → d ≡ s → e ≡ t → f ≡ u → g ≡ v → h ≡ w
    → (a ∷ b ∷ c ∷ d ∷ e ∷ f ∷ g ∷ h ∷ []) ≡ (p ∷ q ∷ r ∷ s ∷ t ∷ u ∷ v ∷ w ∷ [])
eight_is a b c d e f g h = cc

pub eight_within : {k : ℕ} {a b c d e f g h : ℤ} → Within k a → Within k b → Within k c → Within k d → Within k e → Within k f → Within k g → Within k h
    → AllWithin k (a ∷ b ∷ c ∷ d ∷ e ∷ f ∷ g ∷ h ∷ [])
eight_within {k} {a} {b} {c} {d} {e} {f} {g} {h} wa wb wc wd we wf wg wh = record { each = places }
  where
    places : (n : ℕ) → Within k (at (a ∷ b ∷ c ∷ d ∷ e ∷ f ∷ g ∷ h ∷ []) n)
    places zero = wa
    places (suc zero) = wb
    places (suc (suc zero)) = wc
    places (suc (suc (suc zero))) = wd
    places (suc (suc (suc (suc zero)))) = we
    places (suc (suc (suc (suc (suc zero))))) = wf
    places (suc (suc (suc (suc (suc (suc zero)))))) = wg
    places (suc (suc (suc (suc (suc (suc (suc zero))))))) = wh
    places (suc (suc (suc (suc (suc (suc (suc (suc n)))))))) = record { within = omega arith }

-- the other way, for a search, which reads no list; 1048576 is more than any bound of the steps
abbrev Small : List ℤ → ℕ → Type 0
Small l n = Within 1048576 (at l n)

abbrev pub Each : List ℤ → Type 0
Each l = Small l 0 × Small l 1 × Small l 2 × Small l 3 × Small l 4 × Small l 5 × Small l 6 × Small l 7

pub each_within : (k : ℕ) (l : List ℤ) → AllWithin k l → T (leb k 1048576) → Each l
each_within k l w t = (e 0, e 1, e 2, e 3, e 4, e 5, e 6, e 7)
  where
    e : (n : ℕ) → Small l n
    e n = within_at k 1048576 l n w t

-- ---- eight numbers, as the machine reads them
abbrev pub eight : (ℕ → ℤ) → List ℤ
eight f = f 0 ∷ f 1 ∷ f 2 ∷ f 3 ∷ f 4 ∷ f 5 ∷ f 6 ∷ f 7 ∷ []

abbrev pub word : ℤ → ℤ
word z = to_z w32 (of_z w32 z)

-- the steps see no more than eight numbers
pub first_same : (f g : ℕ → ℤ) → ((n : ℕ) → n < 8 → f n ≡ g n) → first_step f ≡ first_step g
unfolding first_step
first_same f g h =
    ap (λ v. first_step (at v))
    (eight_is (h 0 (lit< tt)) (h 1 (lit< tt)) (h 2 (lit< tt)) (h 3 (lit< tt)) (h 4 (lit< tt)) (h 5 (lit< tt)) (h 6 (lit< tt)) (h 7 (lit< tt)))

pub eight_same : (f g : ℕ → ℤ) → ((n : ℕ) → n < 8 → f n ≡ g n) → one_dimensional f ≡ one_dimensional g
eight_same f g h = ap (λ e. third_step (at (second_step (at e)))) (first_same f g h)

-- so that they see them in a table
pub first_table : (f : ℕ → ℤ) → first_step (at (table 8 f)) ≡ first_step f
first_table f = first_same (at (table 8 f)) f (get_d_table (pos 0) 8 f)

pub all_table : (f : ℕ → ℤ) → one_dimensional (at (table 8 f)) ≡ one_dimensional f
all_table f = eight_same (at (table 8 f)) f (get_d_table (pos 0) 8 f)
