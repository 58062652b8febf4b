-- A macroblock's square in its plane, and a small plane with the samples around it: that all numbers stay in their bounds, and what stands where once the
-- samples are brought. Assumes nothing.
use mathlib.Core.Path.{◌≡◌, refl, sym, ap, ◌∙◌}
use mathlib.Core.Bool.{Bool, true}
use mathlib.Core.Logic.{inl, inr}
use mathlib.Core.List.{List}
use Prim.Native.Nat.{ℕ, ◌+◌, ◌*◌, ◌-◌, ◌/◌, ◌%◌, ◌<◌, ◌≤◌}
use native.Mathlib.Nat.{add-mul, one-mul, mul_assoc, mul-le-mul_right}
use native.Mathlib.Omega.{arith}
use lib.ListN.{length, get_or}
use Rattle.laws.proofs.Digits.{le_mul, mul_pos, pred_mul}
use Rattle.laws.proofs.Patches.{patch_same}
use Rattle.laws.proofs.Tests.{T_true}
use Rattle.maps.specs.Neighbours.{marks_of}
use Rattle.maps.specs.Neighbours.Side.{A, B, C, D}
use Rattle.maps.specs.declared.neighbours.Marks.{Marks}
use Rattle.macroblock.specs.Rules.{room}
use Rattle.macroblock.specs.Square.{place_at, put_block}
use Rattle.macroblock.proofs.Places.{put_is_put}
use Rattle.macroblock.proofs.Rooms.{room_stands}
use Rattle.moved.specs.Moved.{SameAround}
use Rattle.cores.specs.inner.Aside.{small_site}
use Rattle.cores.specs.inner.Rects.{Half, RectIn, in_rect, put_rect, put_rect_if}
use Rattle.cores.proofs.Rects.{marked_at, marked_other, marked_length}

-- ---- a macroblock's side
pub half_some : {q : ℕ} → Half q → 0 < q
half_some (inl e) = omega arith
half_some (inr e) = omega arith

half_most : {q : ℕ} → Half q → q ≤ 16
half_most (inl e) = omega arith
half_most (inr e) = omega arith

-- ---- the square of macroblock (x, y), in a plane of n samples
abbrev pub here : (q stride x y : ℕ) → ℕ
here q stride x y = y * q * stride + x * q

module _ (q stride x y n : ℕ) where
  pub record Lies : Type 0 where
    pub some : 0 < q
    pub most : q ≤ 16
    pub wide : x * q + q ≤ stride
    pub rows : y * q ≤ y * q * stride
    pub inside : here q stride x y + (q - 1) * stride + q ≤ n

  pub lies : Half q → x * q + q ≤ stride → (y * q + (q - 1)) * stride + (x * q + q) ≤ n → Lies
  lies h wide within =
      let some = half_some h in
      record {
        some = some;
        most = half_most h;
        wide = wide;
        rows = le_mul (y * q) stride (omega arith);
        inside = omega (arith, add-mul (y * q) (q - 1) stride);
      }

  -- a rectangle that is put there is a block by its coordinates
  pub put_block_lem : (first : ℕ) (block l : List ℕ) {l' : List ℕ} → Lies
      → l' ≡ put_rect q q (here q stride x y) stride (λ i j. get_or block (first + j * q + i) 0) l
      → l' ≡ put_block q (place_at stride y x) (λ i j. get_or block (first + (j * q + i)) 0) l
  put_block_lem first block l w e =
      let off = here q stride x y in
      let at : ℕ → ℕ → ℕ = λ i j. get_or block (first + (j * q + i)) 0 in
      e ∙ patch_same (in_rect q q off stride) (in_rect q q off stride) _ (λ i. at ((i - off) % stride) ((i - off) / stride)) l (λ i. refl)
      (λ i t. ap (λ m. get_or block m 0) (omega arith))
      ∙ put_is_put q off (place_at stride y x) w.some w.wide refl at l

  -- and beside its marked neighbours
  pub record Beside (m : Marks) : Type 0 where
    pub short : stride ≤ 4096
    pub on_a : m.a ≡ true → 0 < x * q
    pub on_b : m.b ≡ true → y * q * stride ≡ (y * q - 1) * stride + stride
    pub on_c : m.c ≡ true → y * q * stride ≡ (y * q - 1) * stride + stride
    pub on_d : m.d ≡ true → (0 < x * q) × (y * q * stride ≡ (y * q - 1) * stride + stride)

  pub found : (m : Marks) → Half q → room q n stride x y (marks_of m) ≡ true → Lies × Beside m
  found m h e =
      let some = half_some h in
      let s = room_stands q n stride x y (marks_of m) some e in
      let left : 0 < x → 0 < x * q = λ f. mul_pos x q f some in
      let above : 0 < y → y * q * stride ≡ (y * q - 1) * stride + stride = λ f. pred_mul (y * q) stride (mul_pos y q f some) in (
        lies h s.block.wide s.block.within,
        record {
          short = s.block.short;
          on_a = λ t. left (s.beside.on_left t);
          on_b = λ t. above (s.beside.on_above t);
          on_c = λ t. above (s.beside.on_above_right t).0;
          on_d = λ t. let f = s.beside.on_corner t in (left f.1, above f.0);
        },
      )

-- ---- a small plane of k samples
module _ (q : ℕ) where
  abbrev pub wide : ℕ
  wide = 3 * q

  abbrev pub middle : ℕ
  middle = q * wide + q

  pub record Small (k : ℕ) : Type 0 where
    pub two : k ≡ q * wide + q * wide
    pub last : q * wide ≡ (q - 1) * wide + wide

  pub small_is : {k : ℕ} → Half q → k ≡ 2 * q * wide → Small k
  small_is h e = record { two = omega (arith, mul_assoc 2 q wide); last = pred_mul q wide (half_some h) }

-- ---- the three together, from what `bring_around` requires
pub record Known (q stride x y n k : ℕ) (m : Marks) : Type 0 where
  pub lies : Lies q stride x y n
  pub beside : Beside q stride x y n m
  pub small : Small q k

pub known : (q stride x y n k : ℕ) (m : Marks) → Half q × (k ≡ 2 * q * wide q) → room q n stride x y (marks_of m) ≡ true → Known q stride x y n k m
known q stride x y n k m h e =
    let f = found q stride x y n m h.0 e in record { lies = f.0; beside = f.1; small = small_is q h.0 h.1 }

-- ---- each marked side's rectangle lies in both planes
module _ {q stride x y n k : ℕ} {m : Marks} (w : Known q stride x y n k m) {first apart off s : ℕ} (at : apart ≡ stride) (wd : s ≡ wide q) where
  pub rect_a : m.a ≡ true → first ≡ here q stride x y - 1 → off ≡ middle q - 1 → RectIn 1 q first apart n × RectIn 1 q off s k
  rect_a t e f = let p = w.beside.on_a t in rw (at, wd, e, f) (record { inside = omega arith }, record { inside = omega arith })

  pub rect_b : m.b ≡ true → first ≡ here q stride x y - stride → off ≡ middle q - wide q → RectIn q 1 first apart n × RectIn q 1 off s k
  rect_b t e f = let p = w.beside.on_b t in rw (at, wd, e, f) (record { inside = omega arith }, record { inside = omega arith })

  pub rect_c : m.c ≡ true → first ≡ here q stride x y - (stride - q) → off ≡ middle q - (wide q - q) → RectIn q 1 first apart n × RectIn q 1 off s k
  rect_c t e f = let p = w.beside.on_c t in rw (at, wd, e, f) (record { inside = omega arith }, record { inside = omega arith })

  pub rect_d : m.d ≡ true → first ≡ here q stride x y - (stride + 1) → off ≡ middle q - (wide q + 1) → RectIn 1 1 first apart n × RectIn 1 1 off s k
  rect_d t e f = let p = w.beside.on_d t in rw (at, wd, e, f) (record { inside = omega arith }, record { inside = omega arith })

-- ---- a side's rectangle is put where it is marked, and nothing else
pub put_yes : (w h off s first apart : ℕ) (plane l : List ℕ) {m : Bool} {off' s' first' apart' : ℕ} {l' : List ℕ} → m ≡ true
    → (first' ≡ first) × (apart' ≡ apart) → (off' ≡ off) × (s' ≡ s) → l' ≡ put_rect w h off' s' (λ i j. get_or plane (first' + j * apart' + i) 0) l
    → l' ≡ put_rect_if m w h off s (λ i j. get_or plane (first + j * apart + i) 0) l
put_yes w h off s first apart plane l t e f p = rw (t, sym e.0, sym e.1, sym f.0, sym f.1) p

-- ---- a rectangle, brought where it is marked
module _ (w h off s : ℕ) (u : ℕ → ℕ → ℕ) (m : Bool) (l l' : List ℕ) (e : l' ≡ put_rect_if m w h off s u l) where
  now_there : (i j n : ℕ) → m ≡ true → w ≤ s → i < w → j < h → n ≡ off + j * s + i → n < length l → get_or l' n 0 ≡ u i j
  now_there i j n t wide hi hj at k =
      ap (λ l. get_or l n 0) e ∙ ap (λ n. get_or (put_rect_if m w h off s u l) n 0) at ∙ marked_at w h off s u l m i j t wide hi hj (omega arith)

  same_long : length l' ≡ length l
  same_long = ap length e ∙ marked_length w h off s u l m

-- one of a single row leaves what stands before it and after it
module _ (w off s : ℕ) (u : ℕ → ℕ → ℕ) (m : Bool) (l l' : List ℕ) (e : l' ≡ put_rect_if m w 1 off s u l) (n : ℕ) where
  leaves : ((i : ℕ) → i < w → ¬ (n ≡ off + i)) → get_or l n 0 ≡ get_or l' n 0
  leaves none =
      sym (marked_other w 1 off s u l m n (λ i j hi hj k. let z : j * s ≤ 0 * s = mul-le-mul_right s (omega arith) in none i hi (omega arith)))
      ∙ ap (λ l. get_or l n 0) (sym e)

  leaves_before : n < off → get_or l n 0 ≡ get_or l' n 0
  leaves_before h = leaves (λ i hi k. omega arith)

  leaves_after : off + w ≤ n → get_or l n 0 ≡ get_or l' n 0
  leaves_after h = leaves (λ i hi k. omega arith)

-- ---- after all four the small plane shows around its square what the plane shows around macroblock (x, y)
abbrev pub taken_of : (q stride x y : ℕ) (plane : List ℕ) → ℕ → ℕ → ℕ → ℕ
taken_of q stride x y plane back i j = get_or plane (here q stride x y - back + j * stride + i) 0

module _ (q stride x y n : ℕ) (m : Marks) (plane l₀ l₁ l₂ l₃ l₄ : List ℕ) where
  abbrev taken : ℕ → ℕ → ℕ → ℕ
  taken = taken_of q stride x y plane

  pub record Brought : Type 0 where
    pub a : l₁ ≡ put_rect_if m.a 1 q (middle q - 1) (wide q) (taken 1) l₀
    pub b : l₂ ≡ put_rect_if m.b q 1 (middle q - wide q) (wide q) (taken stride) l₁
    pub c : l₃ ≡ put_rect_if m.c q 1 (middle q - (wide q - q)) (wide q) (taken (stride - q)) l₂
    pub d : l₄ ≡ put_rect_if m.d 1 1 (middle q - (wide q + 1)) (wide q) (taken (stride + 1)) l₃

  module _ (w : Lies q stride x y n) (b : Beside q stride x y n m) (v : Small q (length l₀)) (e : Brought) where
    abbrev row : ℕ
    row = middle q - wide q

    long₁ : length l₁ ≡ length l₀
    long₁ = same_long 1 q (middle q - 1) (wide q) (taken 1) m.a l₀ l₁ e.a

    long₂ : length l₂ ≡ length l₀
    long₂ = same_long q 1 row (wide q) (taken stride) m.b l₁ l₂ e.b ∙ long₁

    long₃ : length l₃ ≡ length l₀
    long₃ = same_long q 1 (middle q - (wide q - q)) (wide q) (taken (stride - q)) m.c l₂ l₃ e.c ∙ long₂

    -- a side that is brought is left by the sides brought after it
    module _ (i : ℕ) where
      left_d : row ≤ i → get_or l₃ i 0 ≡ get_or l₄ i 0
      left_d h = leaves_after 1 (middle q - (wide q + 1)) (wide q) (taken (stride + 1)) m.d l₃ l₄ e.d i (omega arith)

      left_c : row ≤ i → i < row + q → get_or l₂ i 0 ≡ get_or l₄ i 0
      left_c h k = leaves_before q (middle q - (wide q - q)) (wide q) (taken (stride - q)) m.c l₂ l₃ e.c i (omega arith) ∙ left_d h

      left_b : q * wide q ≤ i → get_or l₁ i 0 ≡ get_or l₄ i 0
      left_b h =
          leaves_after q row (wide q) (taken stride) m.b l₁ l₂ e.b i (omega arith)
          ∙ leaves_after q (middle q - (wide q - q)) (wide q) (taken (stride - q)) m.c l₂ l₃ e.c i (omega arith) ∙ left_d (omega arith)

    same : (i j : ℕ) → i ≡ j → get_or plane i 0 ≡ get_or plane j 0
    same i j = ap (λ i. get_or plane i 0)

    shown_a : m.a ≡ true → (t : ℕ) → t < q → get_or plane ((y * q + t) * stride + (x * q - 1)) 0 ≡ get_or l₄ ((q + t) * wide q + (q - 1)) 0
    shown_a on t h =
        let p = b.on_a on in
        let i : (q + t) * wide q ≡ q * wide q + t * wide q = add-mul q t (wide q) in
        let k : t * wide q ≤ (q - 1) * wide q = mul-le-mul_right (wide q) (omega arith) in
        same _ (here q stride x y - 1 + t * stride + 0) (omega (arith, add-mul (y * q) t stride))
        ∙ sym (now_there 1 q (middle q - 1) (wide q) (taken 1) m.a l₀ l₁ e.a 0 t _ on (omega arith) (omega arith) h (omega arith) (omega arith))
        ∙ left_b _ (omega arith)

    shown_b : m.b ≡ true → (t : ℕ) → t < q → get_or plane ((y * q - 1) * stride + (x * q + t)) 0 ≡ get_or l₄ ((q - 1) * wide q + (q + t)) 0
    shown_b on t h =
        let p = b.on_b on in
        same _ (here q stride x y - stride + 0 * stride + t) (omega arith)
        ∙ sym (now_there q 1 row (wide q) (taken stride) m.b l₁ l₂ e.b t 0 _ on (omega arith) h (omega arith) (omega arith) (omega (arith, long₁)))
        ∙ left_c _ (omega arith) (omega arith)

    shown_c : m.c ≡ true → (t : ℕ) → t < q
        → get_or plane ((y * q - 1) * stride + ((x + 1) * q + t)) 0 ≡ get_or l₄ ((q - 1) * wide q + (2 * q + t)) 0
    shown_c on t h =
        let p = b.on_c on in
        same _ (here q stride x y - (stride - q) + 0 * stride + t) (omega (arith, add-mul x 1 q))
        ∙ sym (now_there q 1 (middle q - (wide q - q)) (wide q) (taken (stride - q)) m.c l₂ l₃ e.c t 0 _ on (omega arith) h (omega arith) (omega arith)
        (omega (arith, long₂)))
        ∙ left_d _ (omega arith)

    shown_d : m.d ≡ true → get_or plane ((y * q - 1) * stride + (x * q - 1)) 0 ≡ get_or l₄ ((q - 1) * wide q + (q - 1)) 0
    shown_d on =
        let p = b.on_d on in
        same _ (here q stride x y - (stride + 1) + 0 * stride + 0) (omega arith)
        ∙ sym (now_there 1 1 (middle q - (wide q + 1)) (wide q) (taken (stride + 1)) m.d l₃ l₄ e.d 0 0 _ on (omega arith) (omega arith) (omega arith)
        (omega arith) (omega (arith, long₃)))

    pub all_around : SameAround q (marks_of m) (record { stride = stride; x = x; y = y; plane = plane }) (small_site q l₄)
    all_around A on t h = simp one-mul (shown_a (T_true m.a on) t h)
    all_around B on t h = simp one-mul (shown_b (T_true m.b on) t h)
    all_around C on t h = simp one-mul (shown_c (T_true m.c on) t h)
    all_around D on t h = simp one-mul (shown_d (T_true m.d on))
