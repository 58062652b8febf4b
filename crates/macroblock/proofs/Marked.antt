-- Where left, above and corner are marked, each block has samples above it, left of it and at its corner, and so every known mode is permitted. Assumes
-- nothing.
use mathlib.Core.Path.{◌≡◌, refl, sym, ◌∙◌}
use mathlib.Core.Bool.{Bool, true, false, cond, ◌&&◌}
use Prim.Native.Nat.{ℕ, zero, suc, ◌<◌, ◌≤◌}
use native.Mathlib.Omega.{arith}
use borrow.Author.Tests.{leb-true}
use lib.Dec.{eqb, leb}
use lib.ListN.{get_or}
use Rattle.laws.specs.Table.{all_below}
use Rattle.laws.proofs.Tests.{and_left, and_right, and_of, all_at, all_of_lem}
use Rattle.basics.specs.Marks.{permitted_nxn, permitted16x16, permitted_chroma}
use Rattle.maps.specs.Neighbours.{Side}
use Rattle.maps.specs.Neighbours.Side.{A, B, D}
use Rattle.macroblock.specs.declared.Record.{Record}
use Rattle.basics.specs.declared.marks.Sides.{Sides}
use Rattle.cut.specs.Cut.{cut_for, used, scan_x, scan_y, sides_of}
use Rattle.cut.proofs.ByKind.{scan_for, used_is}
use Rattle.cut.proofs.Sides.{above_is, left_is, corner_is}
use Rattle.macroblock.specs.Rules.{last_mode, mode_known, known, permitted_for, permitted_at, permitted}
use Rattle.macroblock.proofs.Early.{used_known}

-- ---- with all three sides there, by modes
nxn : (mode : ℕ) → mode ≤ 8 → permitted_nxn true true true mode ≡ true
unfolding all_below
nxn mode h = all_at 9 (permitted_nxn true true true) refl mode (omega arith)

square : (mode : ℕ) → mode ≤ 3 → permitted16x16 true true true mode ≡ true
unfolding all_below
square mode h = all_at 4 (permitted16x16 true true true) refl mode (omega arith)

chroma : (mode : ℕ) → mode ≤ 3 → permitted_chroma true true true mode ≡ true
unfolding all_below
chroma mode h = all_at 4 (permitted_chroma true true true) refl mode (omega arith)

by_kind : (kind : ℕ) (sides : Sides) (mode : ℕ) → sides.above ≡ true → sides.left ≡ true → sides.corner ≡ true → mode ≤ last_mode kind
    → permitted_for kind sides mode ≡ true
by_kind zero sides mode a l c h = (λ i. permitted_nxn (a i) (l i) (c i) mode) ∙ nxn mode h
by_kind (suc zero) sides mode a l c h = (λ i. permitted_nxn (a i) (l i) (c i) mode) ∙ nxn mode h
by_kind (suc (suc _)) sides mode a l c h = (λ i. permitted16x16 (a i) (l i) (c i) mode) ∙ square mode h

either : (t : Bool) {p q : Bool} → p ≡ true → q ≡ true → cond t p q ≡ true
either true e f = e
either false e f = f

module _ (marks : Side → Bool) (r : Record) (a : marks A ≡ true) (b : marks B ≡ true) (d : marks D ≡ true) where
  -- a mode that is at most the last is permitted at block k
  at_block : (k : ℕ) → k < used r.kind → get_or r.modes k 0 ≤ last_mode r.kind → permitted_at r.kind r.modes marks k ≡ true
  at_block k h low =
      let m = (cut_for r.kind).across in
      let l = (scan_for r.kind).x_lt k (omega (arith, used_is r.kind)) in
      let u = eqb (scan_x k) 0 in let v = eqb (scan_y k) 0 in
      by_kind r.kind (sides_of m marks k) (get_or r.modes k 0)
      (sym (above_is m k marks l) ∙ either v b refl)
      (sym (left_is m k marks l) ∙ either u a refl)
      (sym (corner_is m k marks l) ∙ either v (either u d b) (either u a refl))
      low

  pub all_permitted : known r ≡ true → permitted marks r ≡ true
  unfolding known permitted
  all_permitted e =
      let t₁ = leb r.kind 2 in let t₂ = all_below 16 (mode_known r.kind r.modes) in let t₃ = leb r.chroma_mode 3 in
      let fine = and_right t₁ t₂ (and_left (t₁ && t₂) t₃ e) in
      and_of
      (all_of_lem (used r.kind) (permitted_at r.kind r.modes marks)
      (λ k h. at_block k h (leb-true (get_or r.modes k 0) (last_mode r.kind) (used_known marks r k h fine))))
      ((λ i. permitted_chroma (b i) (a i) (d i) r.chroma_mode) ∙ chroma r.chroma_mode (leb-true r.chroma_mode 3 (and_right (t₁ && t₂) t₃ e)))
