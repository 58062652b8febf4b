-- The run of a block's neighbours that the 4x4 and 8x8 predictors work on, and the lines that the rows of a block are windows of, in lists of 32.
use Rattle.std.specs.Prelude.{◌≡◌, Bool, cond, List, ℕ, ◌+◌, ◌-◌, ◌*◌, ◌/◌, ◌%◌, ◌≤◌, ◌<◌, eqb, ltb, get_or, length}
use Rattle.basics.specs.Near.{Near}
use Rattle.intra_nxn.specs.IntraNxN.{mean2, mean3, pred_nxn, filtered}

-- t holds the neighbourhood p of a block of side n: the corner at 10, above to the right of it, left to the left of it, and the last sample of
-- either side once more
pub record Run (n : ℕ) (p : Near) (t : List ℕ) : Type 0 where
  pub size : length t ≡ 32
  pub above : (i : ℕ) → i ≤ 2 * n → get_or t (10 + i) 0 ≡ p i 0
  pub left : (j : ℕ) → j ≤ n → get_or t (10 - j) 0 ≡ p 0 j
  pub last_above : get_or t (11 + 2 * n) 0 ≡ p (2 * n) 0
  pub last_left : get_or t (9 - n) 0 ≡ p 0 n

-- the mean of three round place 1 + k of a run, and that of two from there on
abbrev pub mean_round : List ℕ → ℕ → ℕ
mean_round e k = mean3 (get_or e k 0) (get_or e (1 + k) 0) (get_or e (2 + k) 0)

abbrev pub mean_from : List ℕ → ℕ → ℕ
mean_from e k = mean2 (get_or e (1 + k) 0) (get_or e (2 + k) 0)

-- that of two in an even row, and that of three in an odd one
abbrev pub mean_in : Bool → List ℕ → ℕ → ℕ
mean_in odd e k = cond odd (mean_round e k) (mean_from e k)

-- ---- the filter
-- f holds from 1 on the means of three round each place of e's run, and at its ends those next to them once more
pub record Filtered (e f : List ℕ) : Type 0 where
  pub size : length f ≡ 32
  pub three : (i : ℕ) → 2 ≤ i → i ≤ 26 → get_or f i 0 ≡ mean3 (get_or e (i - 1) 0) (get_or e i 0) (get_or e (i + 1) 0)
  pub end_left : get_or f 1 0 ≡ get_or f 2 0
  pub end_above : get_or f 27 0 ≡ get_or f 26 0

-- ---- lines and rows
-- a side that has two rows in each turn
abbrev pub Even : ℕ → Type 0
Even n = (2 ≤ n) × (n ≤ 8) × (n % 2 ≡ 0)

-- the first k places of a line are f's
pub record Line (k : ℕ) (f : ℕ → ℕ) (l : List ℕ) : Type 0 where
  pub size : length l ≡ 32
  pub is : (j : ℕ) → j < k → get_or l j 0 ≡ f j

-- a line that takes from two rules in turn, f 0, g 0, f 1, g 1, .., up to place m, and from then on from h
unfoldable pub pairs : ℕ → (ℕ → ℕ) → (ℕ → ℕ) → (ℕ → ℕ) → ℕ → ℕ
pairs m f g h j = cond (ltb j m) (cond (eqb (j % 2) 0) (f (j / 2)) (g (j / 2))) (h j)

-- the sample in column x and row y of a block whose rows are windows of two lines in turn
abbrev pub slid : List ℕ → ℕ → List ℕ → ℕ → ℕ → ℕ → ℕ → ℕ → ℕ
slid even a odd b up back x y =
    cond (eqb (y % 2) 0) (get_or even (a + up * (y / 2) - back * (y / 2) + x) 0) (get_or odd (b + up * (y / 2) - back * (y / 2) + x) 0)

-- ---- either prediction
-- the sample in column x and row y of a block of side n, from the neighbourhood as it stands, which is filtered where n is 8
abbrev pub pred_beside : ℕ → ℕ → Bool → Bool → Bool → Near → ℕ → ℕ → ℕ
pred_beside n mode above left corner p = pred_nxn n mode above left (cond (eqb n 8) (filtered n above left corner p) p)
