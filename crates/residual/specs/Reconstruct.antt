-- Picture construction before deblocking, clauses 8.5.1 and 8.5.14: u = Clip1( pred + r ), in arrays and in lent planes.
use Rattle.std.specs.Prelude.{Bool, ◌&&◌, List, [], ◌∷◌, ℕ, ◌+◌, ◌-◌, ◌*◌, ◌/◌, ◌%◌, eqb, ltb, leb, ℤ, pos, ◌+ℤ◌, get_or, length}
use Rattle.laws.specs.Answer.{◌unless◌, answer}
use Rattle.laws.specs.Patch.{patch}
use Rattle.laws.specs.Range.{at}
use Rattle.laws.specs.Table.{table}
use Rattle.basics.specs.Clip.{Clip1}
use Rattle.numbers.specs.Numbers.{all_in_range}

-- the first n samples of a block, from its prediction and its residual in raster order
unfoldable pub sums : ℕ → List ℤ → List ℤ → List ℕ
sums n res pred = table n (λ k. Clip1 (at pred k +ℤ at res k))

-- ---- planes
-- place i of a plane lies in the square of side n whose first sample is at `off`, with rows `stride` apart
abbrev pub in_square : ℕ → ℕ → ℕ → ℕ → Bool
in_square n off stride i = leb off i && ltb ((i - off) / stride) n && ltb ((i - off) % stride) n

-- a plane with that square put anew: u x y in its column x and row y
abbrev pub put_square : ℕ → ℕ → ℕ → (ℕ → ℕ → ℕ) → List ℕ → List ℕ
put_square n off stride u plane = patch (in_square n off stride) (λ i. u ((i - off) % stride) ((i - off) / stride)) plane

-- the sample in column x and row y of a block of side n whose prediction stands in a plane from `off` on and whose residual is a list in raster order
abbrev pub sum_in : ℕ → List ℤ → List ℕ → ℕ → ℕ → ℕ → ℕ → ℕ
sum_in n res pred off stride x y = Clip1 (pos (get_or pred (off + y * stride + x) 0) +ℤ at res (n * y + x))

-- n rows of n bytes from `off` on, `stride` apart, lie in a buffer of `len` bytes
abbrev pub rows_in : ℕ → ℕ → ℕ → ℕ → Bool
rows_in n len off stride = leb (off + (n - 1) * stride + n) len

-- a call that reads a prediction and writes a block of side n has room: the prediction's stride is 0..4096, the written one n..4096, and both lie in their
-- buffers
unfoldable pub into_room : ℕ → ℕ → ℕ → ℕ → ℕ → ℕ → ℕ → Bool
into_room n pred_len pred_off pred_stride rec_len rec_off rec_stride =
    leb pred_stride 4096 && leb n rec_stride && leb rec_stride 4096 && rows_in n pred_len pred_off pred_stride && rows_in n rec_len rec_off rec_stride

-- the answer of such a call for a 4x4 block, by whether its list has sixteen numbers and whether they are good: 2 for the list's length, 2 without
-- room, 8 for numbers that are not
abbrev pub into_answer : Bool → Bool → ℕ → ℕ → ℕ → ℕ → ℕ → ℕ → ℕ
into_answer sixteen numbers pred_len pred_off pred_stride rec_len rec_off rec_stride =
    answer (2 unless sixteen ∷ 2 unless into_room 4 pred_len pred_off pred_stride rec_len rec_off rec_stride ∷ 8 unless numbers ∷ [])

-- a call on lists has n numbers, n of a prediction and n bytes, n at most 64
unfoldable pub sums_room : ℕ → ℕ → ℕ → ℕ → Bool
sums_room n numbers pred bytes = leb n 64 && eqb numbers n && eqb pred n && eqb bytes n

-- the answer of such a call, whose numbers must be good: 2 for another length, 8 for numbers that are not, or a number of the prediction out of range
abbrev pub sums_answer : ℕ → (List ℤ → Bool) → List ℤ → List ℤ → ℕ → ℕ
sums_answer n good numbers pred bytes =
    answer (2 unless sums_room n (length numbers) (length pred) bytes ∷ 8 unless (good numbers && all_in_range pred) ∷ [])
