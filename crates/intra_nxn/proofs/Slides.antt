-- The rows of a block are windows of lines: what stands in the lines is what Places says of the run and its means. Once over the side. Assumes nothing.
use mathlib.Core.Path.{◌≡◌, refl, ap, ◌∙◌}
use mathlib.Core.Bool.{Bool, true, false, cond}
use mathlib.Core.List.{List, ◌++◌}
use Prim.Native.Nat.{ℕ, ◌+◌, ◌-◌, ◌*◌, ◌/◌, ◌%◌, ◌≤◌, ◌<◌}
use native.Mathlib.Decide.{dec_lt}
use native.Mathlib.Nat.{add-mul, mul-le-mul_right}
use native.Mathlib.Omega.{arith}
use borrow.Rule.Slice.PartMut.{mid_of, put_mid, same_len_mid}
use lib.Arith.{digits_div, digits_mod}
use lib.Dec.{eqb, ltb}
use lib.ListN.{get_or, length, set, take, drop, replicate, length-set, length-drop}
use lib.Seq.{get_or-set_same, get_or-set_other, get_or-take, length-take-le}
use Rattle.std.proofs.lemmas.List.{get_or_append_left, get_or-append_right}
use borrow.Author.Count.{below_more}
use borrow.Author.Tests.{lt-ltb, le-ltb, eq-eqb, ne_eqb, ltb-true, ltb-false, eqb-true, eqb-false}
use Rattle.laws.specs.Table.{block_of, onto}
use Rattle.laws.proofs.Blocks.{block_same}
use Rattle.laws.proofs.Ontos.{onto_all}
use Rattle.laws.proofs.Tests.{choose}
use Rattle.intra_nxn.specs.IntraNxN.{down_left, down_right, vertical_right, horizontal_down, vertical_left, horizontal_up, pred_nxn}
use Rattle.basics.specs.Near.{Near, dc}
use Rattle.basics.proofs.Fills.{fill_block}
use Rattle.intra_nxn.specs.inner.Run.{Run, Line, slid, mean_round, mean_from, mean_in, pairs}
use Rattle.intra_nxn.proofs.Places.{stood, three_at, two_at, at_down_left, at_down_right, at_vertical_right, at_horizontal_down, at_vertical_left, at_horizontal_up, past_horizontal_up}

-- ---- lines under way
pub line_none : (f : ℕ → ℕ) (l : List ℕ) → length l ≡ 32 → Line 0 f l
line_none f l e = record { size = e; is = λ j h. absurd (omega arith) }

pub line_more : (k : ℕ) (f : ℕ → ℕ) (l : List ℕ) {v : ℕ} → k < 32 → Line k f l → v ≡ f k → Line (k + 1) f (set l k v)
line_more k f l h g e =
    record {
      size = simp length-set g.size;
      is = below_more (λ j. get_or (set l k _) j 0 ≡ f j) k (λ j b. get_or-set_other l k j _ 0 (omega arith) ∙ g.is j b) (get_or-set_same l k _ 0 (omega (arith, g.size)) ∙ e);
    }

-- two places of a line that takes from two rules in turn
pub pair_more : (m : ℕ) (f g h : ℕ → ℕ) (i : ℕ) (l : List ℕ) {u v : ℕ} → 2 * i + 1 < m → m ≤ 32 → Line (2 * i) (pairs m f g h) l → u ≡ f i → v ≡ g i
    → Line (2 * (i + 1)) (pairs m f g h) (set (set l (2 * i) u) (2 * i + 1) v)
unfolding pairs
pair_more m f g h i l {u} {v} small long q hu hv =
    let next : 2 * i + 1 + 1 ≡ 2 * (i + 1) = omega arith in
    let first : u ≡ pairs m f g h (2 * i) = rw (lt-ltb (2 * i) m (omega arith), eq-eqb (2 * i % 2) 0 (omega arith)) (hu ∙ ap f (omega arith)) in
    let second : v ≡ pairs m f g h (2 * i + 1) = rw (lt-ltb (2 * i + 1) m (omega arith), ne_eqb ((2 * i + 1) % 2) 0 (omega arith)) (hv ∙ ap g (omega arith)) in
    rw (← next) (line_more (2 * i + 1) (pairs m f g h) (set l (2 * i) u) (omega arith) (line_more (2 * i) (pairs m f g h) l (omega arith) q first) second)

-- the places from a on, put through their own part
mid_long : (a k : ℕ) (l : List ℕ) → a + k ≤ 32 → length l ≡ 32 → length (mid_of a k l) ≡ k
mid_long a k l inside size = length-take-le k (drop a l) (simp length-drop (omega (arith, size)))

pub part_line : (a k e : ℕ) (f : ℕ → ℕ) (l ys : List ℕ) → e ≡ a + k → e ≤ 32 → Line a f l → length ys ≡ length (mid_of a k l)
    → ((j : ℕ) → j < length ys → get_or ys j 0 ≡ f (a + j)) → Line e f (put_mid a k l ys)
part_line a k e f l ys end inside q same here = record { size = same_len_mid a k l ys same ∙ q.size; is = λ j b. go j b (dec_lt j a) }
  where
    before : length (take a l) ≡ a
    before = length-take-le a l (omega (arith, q.size))

    long : length ys ≡ k
    long = same ∙ mid_long a k l (omega arith) q.size

    go : (j : ℕ) → j < e → Dec (j < a) → get_or (put_mid a k l ys) j 0 ≡ f j
    go j b (yes h) = get_or_append_left (take a l) _ 0 j (omega (arith, before)) ∙ get_or-take a l j 0 h ∙ q.is j h
    go j b (no h) =
        let at : a + (j - a) ≡ j = omega arith in
        get_or-append_right (take a l) _ a j 0 before (omega arith) ∙ get_or_append_left ys _ 0 (j - a) (omega (arith, long))
        ∙ here (j - a) (omega (arith, long)) ∙ ap f at

-- all of those past them, where they were there from the start
pub past_all : (m n : ℕ) (f g h : ℕ → ℕ) (l : List ℕ) → Line m (pairs m f g h) l → ((j : ℕ) → m ≤ j → j < n → get_or l j 0 ≡ h j) → Line n (pairs m f g h) l
unfolding pairs
past_all m n f g h l q rest = record { size = q.size; is = λ j b. go j b (dec_lt j m) }
  where
    go : (j : ℕ) → j < n → Dec (j < m) → get_or l j 0 ≡ pairs m f g h j
    go j b (yes s) = q.is j s
    go j b (no s) = rest j (omega arith) b ∙ rw (le-ltb j m (omega arith))

-- the line of Horizontal down, from its pairs on
pub past_made : (n : ℕ) (e : List ℕ) (f g : ℕ → ℕ) (l ys : List ℕ) → 2 ≤ n → n ≤ 8 → Line (2 * n) (pairs (2 * n) f g (λ j. mean_round e (10 + j - 2 * n))) l
    → length ys ≡ length (mid_of (2 * n) (3 * n - 2 - 2 * n) l) → ((k : ℕ) → k < length ys → get_or ys k 0 ≡ mean_round e (10 + k))
    → Line (3 * n - 2) (pairs (2 * n) f g (λ j. mean_round e (10 + j - 2 * n))) (put_mid (2 * n) (3 * n - 2 - 2 * n) l ys)
unfolding pairs
past_made n e f g l ys low high q long here =
    part_line (2 * n) (3 * n - 2 - 2 * n) (3 * n - 2) _ l ys (omega arith) (omega arith) q long
    (λ j h.
    let at : 10 + (2 * n + j) - 2 * n ≡ 10 + j = omega arith in
    here j h ∙ rw (le-ltb (2 * n + j) (2 * n) (omega arith), at))

-- ---- rows as windows
-- where rows 2z + 1 and 2z + 2 begin, and that both rows lie in the block
module _ (n z : ℕ) where
  pub odd_from : (2 * z + 1) * n ≡ 2 * z * n + n
  odd_from = add-mul (2 * z) 1 n ∙ omega arith

  pub even_from : 2 * (z + 1) * n ≡ 2 * z * n + n + n
  even_from =
      let e : 2 * (z + 1) ≡ 2 * z + 2 = omega arith in
      ap (λ (r : ℕ). r * n) e ∙ add-mul (2 * z) 2 n ∙ omega arith

  pub rows_inside : n % 2 ≡ 0 → z < n / 2 → 2 * z * n + n + n ≤ n * n
  rows_inside two h =
      let l : 2 * (z + 1) ≤ n = omega arith in
      omega (arith, even_from, mul-le-mul_right n l)

-- row 2z from r on and row 2z + 1, by their samples
module _ (n : ℕ) (even : List ℕ) (a : ℕ) (odd : List ℕ) (b up back z i r : ℕ) (h : i < n) where
  pub even_row : r ≡ a + up * z - back * z → get_or even (r + i) 0 ≡ slid even a odd b up back ((2 * z * n + i) % n) ((2 * z * n + i) / n)
  even_row e =
      let half : 2 * z / 2 ≡ z = omega arith in
      rw (e, digits_mod (2 * z) h, digits_div (2 * z) h, eq-eqb (2 * z % 2) 0 (omega arith), half)

  pub odd_row : r ≡ b + up * z - back * z → get_or odd (r + i) 0 ≡ slid even a odd b up back (((2 * z + 1) * n + i) % n) (((2 * z + 1) * n + i) / n)
  odd_row e =
      let half : (2 * z + 1) / 2 ≡ z = omega arith in
      rw (e, digits_mod (2 * z + 1) h, digits_div (2 * z + 1) h, ne_eqb ((2 * z + 1) % 2) 0 (omega arith), half)

-- a whole block, sample by sample
pub rows_are : (n : ℕ) (f g : ℕ → ℕ → ℕ) (old : List ℕ) {out : List ℕ} → length old ≡ n * n → out ≡ onto (n * n) (λ k. f (k % n) (k / n)) old
    → ((x y : ℕ) → x < n → y < n → f x y ≡ g x y) → out ≡ block_of n g
rows_are n f g old len e h = e ∙ onto_all (n * n) _ old len ∙ block_same n f g h

-- ---- what the windows show, of a block of side n
module _ (n : ℕ) (p : Near) (e : List ℕ) (low : 2 ≤ n) (high : n ≤ 8) (two : n % 2 ≡ 0) (run : Run n p e) (x y : ℕ) (hx : x < n) (hy : y < n) where
  -- a sample of an even row and one of an odd row
  by_row : (even : List ℕ) (a : ℕ) (odd : List ℕ) (b up back v : ℕ) → (y % 2 ≡ 0 → get_or even (a + up * (y / 2) - back * (y / 2) + x) 0 ≡ v)
      → (y % 2 ≡ 1 → get_or odd (b + up * (y / 2) - back * (y / 2) + x) 0 ≡ v) → slid even a odd b up back x y ≡ v
  by_row even a odd b up back v f g =
      choose (λ w. w ≡ v) (eqb (y % 2) 0) _ _ (λ h. f (eqb-true _ _ h)) (λ h. g (omega (arith, eqb-false (y % 2) 0 h)))

  pub is_vertical : slid e 11 e 11 0 0 x y ≡ p (x + 1) 0
  is_vertical = by_row e 11 e 11 0 0 _ (λ h. here _ (omega arith)) (λ h. here _ (omega arith))
    where
      here : (j : ℕ) → j ≡ 11 + x → get_or e j 0 ≡ p (x + 1) 0
      here j h = ap (λ (z : ℕ). get_or e z 0) (omega arith) ∙ run.above (x + 1) (omega arith)

  -- the diagonals, from the means of three along the run
  module _ (first count : ℕ) (line : List ℕ) (q : Line count (λ j. mean_in true e (first + j)) line) (far : first + count ≤ 26) where
    in_threes : (i k : ℕ) {v : ℕ} → i ≡ 2 * (first + k) → k < count → stood e i ≡ v → get_or line k 0 ≡ v
    in_threes i k w h here = q.is k h ∙ three_at e i (first + k) w ∙ here

    pub is_down_left : (a b : ℕ) → first + a ≡ 11 → b ≡ a + 1 → a + 2 * n ≤ count + 1 → slid line a line b 2 0 x y ≡ down_left n p x y
    is_down_left a b ha hb room =
        by_row line a line b 2 0 _ (λ h. in_threes (22 + 2 * (x + y)) (a + 2 * (y / 2) - 0 * (y / 2) + x) (omega arith) (omega arith) here)
        (λ h. in_threes (22 + 2 * (x + y)) (b + 2 * (y / 2) - 0 * (y / 2) + x) (omega arith) (omega arith) here)
      where
        here : stood e (22 + 2 * (x + y)) ≡ down_left n p x y
        here = at_down_left n p e low high run x y _ hx hy refl

    pub is_down_right : (a b : ℕ) → first + a ≡ 9 → b + 1 ≡ a → n ≤ a + 1 → a + n ≤ count → slid line a line b 0 2 x y ≡ down_right p x y
    is_down_right a b ha hb low-a room =
        by_row line a line b 0 2 _ (λ h. in_threes (18 + 2 * x - 2 * y) (a + 0 * (y / 2) - 2 * (y / 2) + x) (omega arith) (omega arith) here)
        (λ h. in_threes (18 + 2 * x - 2 * y) (b + 0 * (y / 2) - 2 * (y / 2) + x) (omega arith) (omega arith) here)
      where
        here : stood e (18 + 2 * x - 2 * y) ≡ down_right p x y
        here = at_down_right n p e low high run x y _ hx hy refl

  pub is_vertical_left : (m : ℕ) (even odd : List ℕ) → m + 1 ≡ n + n / 2 → Line m (λ j. mean_in false e (10 + j)) even → Line m (λ j. mean_in true e (11 + j)) odd
      → slid even 0 odd 0 1 0 x y ≡ vertical_left p x y
  is_vertical_left m even odd hm qe qo =
      let k : ℕ = 0 + 1 * (y / 2) - 0 * (y / 2) + x in
      by_row even 0 odd 0 1 0 _
      (λ h. qe.is k (omega arith) ∙ two_at e (21 + 2 * x + y) (10 + k) (omega arith) ∙ here)
      (λ h. qo.is k (omega arith) ∙ three_at e (21 + 2 * x + y) (11 + k) (omega arith) ∙ here)
    where
      here : stood e (21 + 2 * x + y) ≡ vertical_left p x y
      here = at_vertical_left n p e low high run x y _ hx hy refl

  -- the lines of Vertical_Right: of the even rows and of the odd ones, by where the means of the row above stand
  in_right : (first : ℕ) (rest : ℕ → ℕ) (j : ℕ) → j + y / 2 + 1 ≡ n / 2 + x → first + n + y % 2 ≡ 12
      → (y ≤ 2 * x + 1 → rest (10 - n / 2 + j) ≡ stood e (19 + 2 * x - y))
      → cond (ltb j (n / 2 - 1)) (mean_round e (first + 2 * j)) (rest (10 - n / 2 + j)) ≡ vertical_right p x y
  in_right first rest j hj hf on =
      choose (λ v. v ≡ vertical_right p x y) (ltb j (n / 2 - 1)) _ _
      (λ h. let l : j < n / 2 - 1 = ltb-true _ _ h in
      three_at e (20 + 4 * x - 2 * y) (first + 2 * j) (omega arith) ∙ stands _ (λ n. absurd (omega arith)) (λ _. refl))
      (λ h. let l : n / 2 - 1 ≤ j = ltb-false _ _ h in on (omega arith) ∙ stands _ (λ _. refl) (λ n. absurd (omega arith)))
    where
      stands : (i : ℕ) → (y ≤ 2 * x + 1 → i ≡ 19 + 2 * x - y) → (2 * x + 1 < y → i ≡ 20 + 4 * x - 2 * y) → stood e i ≡ vertical_right p x y
      stands i = at_vertical_right n p e low high run x y i hx hy

  pub is_vertical_right : (a f g : ℕ) (even odd : List ℕ) → a + 1 ≡ n / 2 → f + n ≡ 12 → g + n ≡ 11
      → Line (n / 2 - 1 + n) (λ j. cond (ltb j (n / 2 - 1)) (mean_round e (f + 2 * j)) (mean_in false e (10 - n / 2 + j))) even
      → Line (n / 2 - 1 + n) (λ j. cond (ltb j (n / 2 - 1)) (mean_round e (g + 2 * j)) (mean_in true e (10 - n / 2 + j))) odd
      → slid even a odd a 0 1 x y ≡ vertical_right p x y
  is_vertical_right a f g even odd ha hf hg qe qo =
      let j : ℕ = a + 0 * (y / 2) - 1 * (y / 2) + x in
      by_row even a odd a 0 1 _
      (λ h. qe.is j (omega arith) ∙ in_right f (mean_from e) j (omega arith) (omega arith) (λ l. two_at e (19 + 2 * x - y) (10 - n / 2 + j) (omega arith)))
      (λ h. qo.is j (omega arith) ∙ in_right g (mean_round e) j (omega arith) (omega arith) (λ l. three_at e (19 + 2 * x - y) (10 - n / 2 + j) (omega arith)))

  -- the means of two and of three in turn, where they stand in turn
  in_pairs : (m : ℕ) (f g h : ℕ → ℕ) (j v : ℕ) → (j < m → j % 2 ≡ 0 → f (j / 2) ≡ v) → (j < m → j % 2 ≡ 1 → g (j / 2) ≡ v) → (m ≤ j → h j ≡ v) → pairs m f g h j ≡ v
  unfolding pairs
  in_pairs m f g h j v hf hg hh =
      choose (λ w. w ≡ v) (ltb j m) _ _
      (λ t. let l : j < m = ltb-true _ _ t in
      choose (λ w. w ≡ v) (eqb (j % 2) 0) _ _ (λ s. hf l (eqb-true _ _ s)) (λ s. hg l (omega (arith, eqb-false (j % 2) 0 s))))
      (λ t. hh (ltb-false _ _ t))

  pub is_horizontal_down : (a b : ℕ) (line : List ℕ) → a + 2 ≡ 2 * n → b + 4 ≡ 2 * n
      → Line (3 * n - 2) (pairs (2 * n) (λ i. mean_from e (9 - n + i)) (λ i. mean_round e (10 - n + i)) (λ j. mean_round e (10 + j - 2 * n))) line
      → slid line a line b 0 4 x y ≡ horizontal_down p x y
  is_horizontal_down a b line ha hb q = by_row line a line b 0 4 _ (λ h. in_line _ (omega arith)) (λ h. in_line _ (omega arith))
    where
      stands : (i : ℕ) → (x ≤ 2 * y + 1 → i ≡ 17 + x - 2 * y) → (2 * y + 1 < x → i ≡ 16 + 2 * x - 4 * y) → stood e i ≡ horizontal_down p x y
      stands i = at_horizontal_down n p e low high run x y i hx hy

      in_line : (j : ℕ) → j + 2 * y + 2 ≡ 2 * n + x → get_or line j 0 ≡ horizontal_down p x y
      in_line j hj =
          q.is j (omega arith)
          ∙ in_pairs (2 * n) _ _ _ j _
          (λ l s. two_at e (19 + j - 2 * n) (9 - n + j / 2) (omega arith) ∙ stands (19 + j - 2 * n) (λ _. omega arith) (λ n. absurd (omega arith)))
          (λ l s. three_at e (19 + j - 2 * n) (10 - n + j / 2) (omega arith) ∙ stands (19 + j - 2 * n) (λ _. omega arith) (λ n. absurd (omega arith)))
          (λ l. three_at e (16 + 2 * x - 4 * y) (10 + j - 2 * n) (omega arith) ∙ stands _ (λ n. absurd (omega arith)) (λ _. refl))

  pub is_horizontal_up : (line : List ℕ)
      → Line (3 * n - 2) (pairs (2 * n - 2) (λ i. mean_from e (7 - i)) (λ i. mean_round e (7 - i)) (λ _. get_or e (10 - n) 0)) line
      → slid line 0 line 2 4 0 x y ≡ horizontal_up n p x y
  is_horizontal_up line q = by_row line 0 line 2 4 0 _ (λ h. in_line _ (omega arith)) (λ h. in_line _ (omega arith))
    where
      in_line : (j : ℕ) → j ≡ x + 2 * y → get_or line j 0 ≡ horizontal_up n p x y
      in_line j hj =
          q.is j (omega arith)
          ∙ in_pairs (2 * n - 2) _ _ _ j _
          (λ l s. two_at e (15 - j) (7 - j / 2) (omega arith) ∙ at_horizontal_up n p e low high run x y (15 - j) hx hy (omega arith) (omega arith))
          (λ l s. three_at e (15 - j) (7 - j / 2) (omega arith) ∙ at_horizontal_up n p e low high run x y (15 - j) hx hy (omega arith) (omega arith))
          (λ l. past_horizontal_up n p e low high run x y (omega arith))

-- ---- whole blocks, mode by mode
-- the windows are put, and the block is drawn
abbrev Put : ℕ → List ℕ → ℕ → List ℕ → ℕ → ℕ → ℕ → List ℕ → List ℕ → Type 0
Put n even a odd b up back old out = out ≡ onto (n * n) (λ k. slid even a odd b up back (k % n) (k / n)) old

abbrev Drawn : ℕ → ℕ → Bool → Bool → Near → List ℕ → Type 0
Drawn n mode above left p out = out ≡ block_of n (pred_nxn n mode above left p)

module _ (n : ℕ) (p : Near) (e : List ℕ) (low : 2 ≤ n) (high : n ≤ 8) (two : n % 2 ≡ 0) (run : Run n p e) (above left : Bool) {mode : ℕ}
    (old : List ℕ) {out : List ℕ} (len : length old ≡ n * n) where
  pub vertical_rows : mode ≡ 0 → Put n e 11 e 11 0 0 old out → Drawn n mode above left p out
  unfolding pred_nxn
  vertical_rows h put =
      rows_are n (λ x y. slid e 11 e 11 0 0 x y) (pred_nxn n mode above left p) old len put
      (λ x y hx hy. rw h (is_vertical n p e low high two run x y hx hy))

  pub horizontal_rows : mode ≡ 1 → out ≡ onto (n * n) (λ k. get_or e (9 - k / n) 0) old
      → Drawn n mode above left p out
  unfolding pred_nxn
  horizontal_rows h put =
      rows_are n (λ x y. get_or e (9 - y) 0) (pred_nxn n mode above left p) old len put
      (λ x y hx hy. rw h (ap (λ (k : ℕ). get_or e k 0) (omega arith) ∙ run.left (y + 1) (omega arith)))

  pub dc_rows : mode ≡ 2 → (v : ℕ) → v ≡ dc n above left p → out ≡ replicate (length (take (n * n) old)) v
      → out ++ drop (n * n) old ≡ block_of n (pred_nxn n mode above left p)
  unfolding pred_nxn
  dc_rows h v q put =
      let whole : n * n - 0 ≡ n * n = omega arith in
      rw whole at (fill_block n v (pred_nxn n mode above left p) old {ys = out} len (rw whole put) (λ x y. rw h q))

  pub down_left_rows : mode ≡ 3 → (line : List ℕ) → Line (2 * n) (λ j. mean_in true e (10 + j)) line → Put n line 1 line 2 2 0 old out
      → Drawn n mode above left p out
  unfolding pred_nxn
  down_left_rows h line q put =
      rows_are n (λ x y. slid line 1 line 2 2 0 x y) (pred_nxn n mode above left p) old len put
      (λ x y hx hy. rw h (is_down_left n p e low high two run x y hx hy 10 (2 * n) line q (omega arith) 1 2 refl refl (omega arith)))

  pub down_right_rows : mode ≡ 4 → (line : List ℕ) → Line (2 * n) (λ j. mean_in true e (10 - n + j)) line
      → Put n line (n - 1) line (n - 2) 0 2 old out → Drawn n mode above left p out
  unfolding pred_nxn
  down_right_rows h line q put =
      rows_are n (λ x y. slid line (n - 1) line (n - 2) 0 2 x y) (pred_nxn n mode above left p) old len put
      (λ x y hx hy.
      rw h (is_down_right n p e low high two run x y hx hy (10 - n) (2 * n) line q (omega arith) (n - 1) (n - 2) (omega arith) (omega arith) (omega arith) (omega arith)))

  pub vertical_right_rows : mode ≡ 5 → (even odd : List ℕ)
      → Line (n / 2 - 1 + n) (λ j. cond (ltb j (n / 2 - 1)) (mean_round e (12 - n + 2 * j)) (mean_in false e (10 - n / 2 + j))) even
      → Line (n / 2 - 1 + n) (λ j. cond (ltb j (n / 2 - 1)) (mean_round e (11 - n + 2 * j)) (mean_in true e (10 - n / 2 + j))) odd
      → Put n even (n / 2 - 1) odd (n / 2 - 1) 0 1 old out → Drawn n mode above left p out
  unfolding pred_nxn
  vertical_right_rows h even odd q r put =
      rows_are n (λ x y. slid even (n / 2 - 1) odd (n / 2 - 1) 0 1 x y) (pred_nxn n mode above left p) old len put
      (λ x y hx hy. rw h (is_vertical_right n p e low high two run x y hx hy (n / 2 - 1) (12 - n) (11 - n) even odd (omega arith) (omega arith) (omega arith) q r))

  pub horizontal_down_rows : mode ≡ 6 → (line : List ℕ)
      → Line (3 * n - 2) (pairs (2 * n) (λ i. mean_from e (9 - n + i)) (λ i. mean_round e (10 - n + i)) (λ j. mean_round e (10 + j - 2 * n))) line
      → Put n line (2 * n - 2) line (2 * n - 4) 0 4 old out → Drawn n mode above left p out
  unfolding pred_nxn
  horizontal_down_rows h line q put =
      rows_are n (λ x y. slid line (2 * n - 2) line (2 * n - 4) 0 4 x y) (pred_nxn n mode above left p) old len put
      (λ x y hx hy. rw h (is_horizontal_down n p e low high two run x y hx hy (2 * n - 2) (2 * n - 4) line (omega arith) (omega arith) q))

  pub vertical_left_rows : mode ≡ 7 → (even odd : List ℕ) → Line (n + n / 2 - 1) (λ j. mean_in false e (10 + j)) even → Line (n + n / 2 - 1) (λ j. mean_in true e (11 + j)) odd
      → Put n even 0 odd 0 1 0 old out → Drawn n mode above left p out
  unfolding pred_nxn
  vertical_left_rows h even odd q r put =
      rows_are n (λ x y. slid even 0 odd 0 1 0 x y) (pred_nxn n mode above left p) old len put
      (λ x y hx hy. rw h (is_vertical_left n p e low high two run x y hx hy (n + n / 2 - 1) even odd (omega arith) q r))

  pub horizontal_up_rows : mode ≡ 8 → (line : List ℕ)
      → Line (3 * n - 2) (pairs (2 * n - 2) (λ i. mean_from e (7 - i)) (λ i. mean_round e (7 - i)) (λ _. get_or e (10 - n) 0)) line
      → Put n line 0 line 2 4 0 old out → Drawn n mode above left p out
  unfolding pred_nxn
  horizontal_up_rows h line q put =
      rows_are n (λ x y. slid line 0 line 2 4 0 x y) (pred_nxn n mode above left p) old len put
      (λ x y hx hy. rw h (is_horizontal_up n p e low high two run x y hx hy line q))
