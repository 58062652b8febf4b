-- A case of 4x4 or 8x8 luma prediction, as a writer of tests has it: what a call is handed, what it answers, and the block that it leaves.
use Rattle.std.specs.Prelude.{◌≡◌, Bool, List, ◌++◌, ℕ, ◌+◌, ◌*◌, length, get_or, take, replicate}
use Rattle.laws.specs.Answer.{written}
use Rattle.laws.specs.Table.{block_of}
use Rattle.basics.specs.Marks.{permitted_nxn, mode_answer, pred_answer}
use Rattle.basics.specs.Near.{Near, near}

pub record Case : Type 0 where
  pub mode : ℕ
  pub avail_top : Bool
  pub avail_left : Bool
  pub avail_corner : Bool
  pub top : List ℕ
  pub left : List ℕ
  pub corner : ℕ

-- the lists have their lengths: 2n samples above and n left
pub record Sized (n : ℕ) (c : Case) : Type 0 where
  pub tops : length c.top ≡ 2 * n
  pub lefts : length c.left ≡ n

-- the case on its side, in mode m': left and the first n samples above are exchanged, and their marks. `right` stands above and to the right
abbrev pub turned_case : ℕ → ℕ → List ℕ → Case → Case
turned_case n m' right c =
    record {
      mode = m';
      avail_top = c.avail_left;
      avail_left = c.avail_top;
      avail_corner = c.avail_corner;
      top = c.left ++ right;
      left = take n c.top;
      corner = c.corner;
    }

-- a block of side n in raster order with rows and columns exchanged
abbrev pub transposed : ℕ → List ℕ → List ℕ
transposed n block = block_of n (λ x y. get_or block (x * n + y) 0)

-- the modes that a case's marks permit
abbrev pub permitted_for : Case → ℕ → Bool
permitted_for c = permitted_nxn c.avail_top c.avail_left c.avail_corner

-- What the contracts say of a case. The answer: of the forms over lists (`intra4x4_pred_into`, `intra8x8_pred_into` and the exports), by how many bytes
-- are lent, and of the array forms (`intra4x4_pred`, `intra8x8_pred`)
abbrev pub lent_answer : ℕ → Case → ℕ → ℕ
lent_answer n c lent = pred_answer n (2 * n) (length c.top) (length c.left) lent 8 (permitted_for c) c.mode

abbrev pub array_answer : Case → ℕ
array_answer c = mode_answer 8 (permitted_for c) c.mode

module _ (n : ℕ) (pred : ℕ → Bool → Bool → Bool → Near → ℕ → ℕ → ℕ) where
  -- the sample in column x and row y
  abbrev pub case_sample : Case → ℕ → ℕ → ℕ
  case_sample c = pred c.mode c.avail_top c.avail_left c.avail_corner (near c.top c.left c.corner)

  -- and the block, in the bytes that are lent, or as an array, for which zeros stand where the call is refused
  abbrev pub lent_block : Case → List ℕ → List ℕ
  lent_block c out = written (lent_answer n c (length out)) out (block_of n (case_sample c))

  abbrev pub array_block : Case → List ℕ
  array_block c = written (array_answer c) (replicate (n * n) 0) (block_of n (case_sample c))
