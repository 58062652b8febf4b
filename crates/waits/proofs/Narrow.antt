-- What a permitted record rebuilds depends on the neighbours only that it waits for, wherever rule 2 of the macroblock call holds. Assumes nothing.
use mathlib.Core.Path.{◌≡◌, refl, sym, ◌∙◌}
use mathlib.Core.Bool.{Bool, true, false, ◌&&◌, ◌||◌}
use mathlib.Core.List.{List}
use Prim.Native.Nat.{ℕ, zero, suc, ◌*◌, ◌<◌}
use native.Mathlib.Omega.{arith}
use lib.Dec.{lit≤}
use lib.ListN.{get_or}
use Rattle.laws.specs.Table.{all_below}
use Rattle.laws.proofs.Tests.{and_left, and_right, and_both, and_of, all_at, or_left, or_right, or_either, some_of, some_is}
use Rattle.basics.specs.Marks.{permitted_chroma}
use Rattle.maps.specs.Done.{all_settled}
use Rattle.maps.specs.Neighbours.{Side}
use Rattle.maps.specs.Neighbours.Side.{A, B, D}
use Rattle.maps.proofs.Waiting.{settled_either}
use Rattle.cut.specs.Cut.{whole, cut_for, used, scan_x, scan_y, is_there, sides_of, square_sides}
use Rattle.cut.proofs.Scan.{scan_1, scan_2, scan_4}
use Rattle.macroblock.specs.Kinds.{residual_l, residual_in, luma_rule, chroma_rule}
use Rattle.macroblock.specs.Local.{Local}
use Rattle.macroblock.specs.Rules.{permitted_at, permitted}
use Rattle.macroblock.specs.Square.{place_at, all_parts}
use Rattle.macroblock.specs.declared.Record.{Record}
use Rattle.macroblock.specs.inner.Blocks.{StandsIn}
use Rattle.macroblock.proofs.Rooms.{all_stand}
use Rattle.reads.specs.Exactly.{Predictor, Exactly, chroma8x8, luma4x4, luma8x8, luma16x16, permits}
use Rattle.reads.specs.Groups.{Group, groups_of}
use Rattle.reads.proofs.Exactly.{exactly_4x4, exactly_8x8, exactly_16x16, exactly_chroma, unread_4x4, unread_8x8, unread_16x16, unread_chroma}
use Rattle.waits.specs.Narrow.{AllNarrow}
use Rattle.waits.specs.Waits.{holder_of, is_holder, block_reads, square_reads, predictor_for, waits}
use Rattle.waits.proofs.Holders.{holder_marked, group_there, some_group_lem, which_group}
use Rattle.waits.proofs.NarrowSquare.{narrow_square}

exactly_for : (kind : ℕ) → Exactly (predictor_for kind)
exactly_for zero = exactly_4x4
exactly_for (suc zero) = exactly_8x8
exactly_for (suc (suc _)) = exactly_16x16

-- ---- a square: what one of its blocks reads is read, and what is read is marked
module _ (P : Predictor) (m : ℕ) (marks : Side → Bool) (modes : ℕ → ℕ) where
  square_covers : (k : ℕ) → k < m * m → (g : Group) (d : Side) → P.reads (groups_of (sides_of m marks k)) (modes k) g ≡ true
      → is_holder d (holder_of m k g) ≡ true → square_reads P m marks modes d ≡ true
  square_covers k hk g d e h =
      some_of (m * m) (block_reads P m marks modes d) k hk
      (some_group_lem (λ g. P.reads (groups_of (sides_of m marks k)) (modes k) g && is_holder d (holder_of m k g)) g (and_of e h))

  square_marked : Exactly P → (d : Side) → square_reads P m marks modes d ≡ true → marks d ≡ true
  square_marked exact d e =
      let k = some_is (m * m) (block_reads P m marks modes d) e in
      let g = which_group (λ g. P.reads (groups_of (sides_of m marks k.0)) (modes k.0) g && is_holder d (holder_of m k.0 g)) k.2 in
      let t = and_both (P.reads (groups_of (sides_of m marks k.0)) (modes k.0) g.0) (is_holder d (holder_of m k.0 g.0)) g.1 in
      holder_marked marks d (holder_of m k.0 g.0) t.1 (sym (group_there m marks k.0 g.0) ∙ exact.there _ (modes k.0) g.0 t.0)

-- ---- a record
module _ (marks : Side → Bool) (r : Record) where
  abbrev mode_at : ℕ → ℕ
  mode_at k = get_or r.modes k 0

  abbrev across : ℕ
  across = (cut_for r.kind).across

  abbrev in_luma : Side → Bool
  in_luma = square_reads (predictor_for r.kind) across marks mode_at

  abbrev in_chroma : Side → Bool
  in_chroma = square_reads chroma8x8 1 marks (λ _. r.chroma_mode)

  pub waits_is : waits marks r ≡ (λ d. in_luma d || in_chroma d)
  unfolding waits
  waits_is = refl

  -- where those that chroma waits for are not all done, neither are these; and where they are, those of luma decide
  module _ (w x y : ℕ) (done : List ℕ) where
    parts : all_settled w x y (waits marks r) done ≡ all_settled w x y in_chroma done && all_settled w x y in_luma done
    unfolding waits
    parts = settled_either w x y in_luma in_chroma done

    pub chroma_waits : all_settled w x y in_chroma done ≡ false → all_settled w x y (waits marks r) done ≡ false
    chroma_waits e = parts ∙ rw e

    pub luma_decides : all_settled w x y in_chroma done ≡ true → all_settled w x y (waits marks r) done ≡ all_settled w x y in_luma done
    luma_decides e = parts ∙ rw e

  -- only marked neighbours are waited for
  pub waits_marked : (d : Side) → waits marks r d ≡ true → marks d ≡ true
  unfolding waits
  waits_marked d e =
      or_either (in_luma d) (in_chroma d) (square_marked (predictor_for r.kind) across marks mode_at (exactly_for r.kind) d)
      (square_marked chroma8x8 1 marks (λ _. r.chroma_mode) exactly_chroma d) e

  -- and each that holds what a block reads
  luma_covers : (k : ℕ) → k < across * across → (g : Group) (d : Side) → (predictor_for r.kind).reads (groups_of (sides_of across marks k)) (mode_at k) g ≡ true
      → is_holder d (holder_of across k g) ≡ true → waits marks r d ≡ true
  unfolding waits
  luma_covers k hk g d e h = or_left (in_luma d) (in_chroma d) (square_covers (predictor_for r.kind) across marks mode_at k hk g d e h)

  chroma_covers : (k : ℕ) → k < 1 → (g : Group) (d : Side) → chroma8x8.reads (groups_of (sides_of 1 marks k)) r.chroma_mode g ≡ true
      → is_holder d (holder_of 1 k g) ≡ true → waits marks r d ≡ true
  unfolding waits
  chroma_covers k hk g d e h = or_right (in_luma d) (in_chroma d) (square_covers chroma8x8 1 marks (λ _. r.chroma_mode) k hk g d e h)

  -- chroma is one block
  one_block : permitted_chroma (marks B) (marks A) (marks D) r.chroma_mode ≡ true
      → (k : ℕ) → k < 1 → permits chroma8x8 (groups_of (sides_of 1 marks k)) r.chroma_mode ≡ true
  unfolding is_there scan_x scan_y
  one_block ok zero h = ok
  one_block ok (suc k) h = absurd (omega arith)

  -- ---- its squares, in a plane of n samples with stride s
  module _ (n s x y : ℕ) where
    luma_narrow : (kind : ℕ) → StandsIn 16 (place_at s y x) n (square_sides marks)
        → ((k : ℕ) → k < used kind → permitted_at kind r.modes marks k ≡ true)
        → ((k : ℕ) → k < (cut_for kind).across * (cut_for kind).across → (g : Group) (d : Side)
        → (predictor_for kind).reads (groups_of (sides_of (cut_for kind).across marks k)) (mode_at k) g ≡ true
        → is_holder d (holder_of (cut_for kind).across k g) ≡ true → waits marks r d ≡ true)
        → Local n 16 s x y (waits marks r) (all_parts (cut_for kind) (luma_rule kind r.modes r.numbers) s x y marks)
    luma_narrow zero stands ok cover =
        narrow_square luma4x4 4 8 (lit≤ tt) exactly_4x4 unread_4x4 mode_at (residual_l 0 r.numbers) n s x y marks (waits marks r) scan_4 (lit≤ tt)
        stands ok waits_marked cover
    luma_narrow (suc zero) stands ok cover =
        narrow_square luma8x8 2 16 (lit≤ tt) exactly_8x8 unread_8x8 mode_at (residual_l 1 r.numbers) n s x y marks (waits marks r) scan_2 (lit≤ tt)
        stands ok waits_marked cover
    luma_narrow (suc (suc _)) stands ok cover =
        narrow_square luma16x16 1 16 (lit≤ tt) exactly_16x16 unread_16x16 mode_at (residual_l 2 r.numbers) n s x y marks (waits marks r) scan_1 (lit≤ tt)
        stands ok waits_marked cover

    chroma_narrow : (b : ℕ) → StandsIn 8 (place_at s y x) n (square_sides marks) → permitted_chroma (marks B) (marks A) (marks D) r.chroma_mode ≡ true
        → Local n 8 s x y (waits marks r) (all_parts (whole 8) (chroma_rule r.chroma_mode r.numbers b) s x y marks)
    chroma_narrow b stands ok =
        narrow_square chroma8x8 1 8 (lit≤ tt) exactly_chroma unread_chroma (λ _. r.chroma_mode) (λ k. residual_in r.numbers b) n s x y marks (waits marks r)
        scan_1 (lit≤ tt) stands (one_block ok) waits_marked chroma_covers

pub narrow : AllNarrow
unfolding permitted
narrow x y n₁ n₂ n₃ s marks r e ok =
    let w = all_stand x y n₁ n₂ n₃ s marks e in
    let m = all_below (used r.kind) (permitted_at r.kind r.modes marks) in
    let c = permitted_chroma (marks B) (marks A) (marks D) r.chroma_mode in
    record {
      luma =
          luma_narrow marks r n₁ s.luma x y r.kind w.luma (all_at (used r.kind) (permitted_at r.kind r.modes marks) (and_left m c ok))
          (luma_covers marks r);
      cb = chroma_narrow marks r n₂ s.cb x y 16 w.cb (and_right m c ok);
      cr = chroma_narrow marks r n₃ s.cr x y 20 w.cr (and_right m c ok);
    }
