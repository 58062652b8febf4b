-- `macroblock::residuals::residuals_of` meets its contract: luma in 8x8 blocks is transformed in 64s and the rest in sixteens, else all in sixteens.
-- Assumes nothing.
use mathlib.Core.Path.{◌≡◌, sym, ap, ◌∙◌}
use mathlib.Core.Logic.{◌≢◌, ◌⊎◌, inl, inr}
use mathlib.Core.Bool.{Bool, true, false, cond, ◌&&◌}
use Prim.Native.Nat.{ℕ}
use native.Mathlib.Omega.{arith}
use lib.ListN.{length-take}
use Rattle.std.proofs.Common.{rules}
use Rattle.std.proofs.lemmas.Result.{IfOk-weaker}
use Rattle.refusals.specs.Refusal.{number, number_of}
use Rattle.refusals.specs.declared.Refusal.{Refusal}
use Rattle.refusals.specs.declared.Refusal.TheVariants.{Size, Room, Place, Done, NotReady, Unknown, NotPermitted, Range, Rows, Order}
use Rattle.cut.specs.declared.kind.Kind.{Kind}
use Rattle.cut.specs.declared.kind.Kind.TheVariants.{Luma4x4, Luma16x16}
use Rattle.cut.specs.Kind.{kind_number}
use Rattle.macroblock.specs.Rules.{luma_in_range, chroma_in_range}
use Rattle.macroblock.proofs.Transforms.{all_told, front_told, rest_told, all_transformed, all_coded, both_transformed, both_coded, kind_one, kind_other, luma_other}
use Rattle.macroblock.proofs.residuals.residuals_of.Goals as goal

-- what the numbers of an answer tell of two tests, the first of which fails, or holds
none : (p q : Bool) {n : ℕ} → (n ≡ 0 → ⊥) → n ≡ cond p 0 8 → n ≡ cond (p && q) 0 8
none true q z e = absurd (z e)
none false q z e = e

both : (p q : Bool) {n : ℕ} → ◌≡◌ {A = ℕ} (cond p 0 8) 0 → n ≡ cond q 0 8 → n ≡ cond (p && q) 0 8
both true q z e = e
both false q z e = absurd (omega arith)

some : (r : Refusal) → number r ≡ 0 → ⊥
some Size e = absurd (omega arith)
some Room e = absurd (omega arith)
some Place e = absurd (omega arith)
some Done e = absurd (omega arith)
some NotReady e = absurd (omega arith)
some Unknown e = absurd (omega arith)
some NotPermitted e = absurd (omega arith)
some Range e = absurd (omega arith)
some Rows e = absurd (omega arith)
some Order e = absurd (omega arith)

other : {kind : Kind} → (kind ≡ Luma4x4) ⊎ (kind ≡ Luma16x16) → kind_number kind ≢ 1
other {kind} (inl e) h = let n : kind_number kind ≡ 0 = ap kind_number e in absurd (omega arith)
other {kind} (inr e) h = let n : kind_number kind ≡ 2 = ap kind_number e in absurd (omega arith)

pub slice_bounds-invert-end : goal.slice_bounds-invert-end
slice_bounds-invert-end c = omega (arith, length-take 256 c.args.numbers.now)

pub invert-requires : goal.invert-requires
invert-requires c = (omega (arith, length-take 256 c.args.numbers.now, length-take 256 c.args.out.now), omega (arith, length-take 256 c.args.numbers.now, length-take 4 c.args.coded.now))

pub returns-in_err-invert-in-Luma8x8-clause-value : goal.returns-in_err-invert-in-Luma8x8-clause-value
returns-in_err-invert-in-Luma8x8-clause-value c = let l = c.args.numbers.now in
    let e : number_of c.from_residual.result ≡ number c.in_err-invert-in-Luma8x8.field-0.0 = search rules in
    none (luma_in_range 1 l) (chroma_in_range l) (λ z. some c.in_err-invert-in-Luma8x8.field-0.0 (sym e ∙ z))
    (e ∙ c.in_err-invert-in-Luma8x8.ensures.value ∙ ap (λ t. cond t 0 8) (front_told l c.requires.0))
    ∙ ap (λ kind. cond (luma_in_range (kind_number kind) l && chroma_in_range l) 0 8) (sym c.in-Luma8x8.is)

pub returns-in_ok-invert-in-Luma8x8-clause-value : goal.returns-in_ok-invert-in-Luma8x8-clause-value
returns-in_ok-invert-in-Luma8x8-clause-value c = let l = c.args.numbers.now in
    both (luma_in_range 1 l) (chroma_in_range l) (sym (c.in_ok-invert-in-Luma8x8.ensures.value ∙ ap (λ t. cond t 0 8) (front_told l c.requires.0)))
    (c.invert-in-Luma8x8.ensures.value ∙ ap (λ t. cond t 0 8) (rest_told l c.requires.0))
    ∙ ap (λ kind. cond (luma_in_range (kind_number kind) l && chroma_in_range l) 0 8) (sym c.in-Luma8x8.is)

pub returns-in_ok-invert-in-Luma8x8-clause-transformed : goal.returns-in_ok-invert-in-Luma8x8-clause-transformed
returns-in_ok-invert-in-Luma8x8-clause-transformed c = let l = c.args.numbers.now in
    let o = c.args.out.now in
    let room = c.requires.1 in
    IfOk-weaker c.invert-in-Luma8x8.result _ _
    (λ _ e. kind_one (kind_number c.args.kind) (ap kind_number c.in-Luma8x8.is)
    (both_transformed l o c.invert.new.out c.requires.0 room c.in_ok-invert-in-Luma8x8.ensures.residuals c.invert-in-Luma8x8.new.out e))
    c.invert-in-Luma8x8.ensures.residuals

pub returns-in_ok-invert-in-Luma8x8-clause-coded : goal.returns-in_ok-invert-in-Luma8x8-clause-coded
returns-in_ok-invert-in-Luma8x8-clause-coded c = let l = c.args.numbers.now in
    let o = c.args.out.now in
    let k = c.args.coded.now in
    let room = c.requires.1 in
    let six = c.requires.2 in
    IfOk-weaker c.invert-in-Luma8x8.result _ _
    (λ _ e. both_coded l o c.invert.new.out c.requires.0 room c.in_ok-invert-in-Luma8x8.ensures.residuals c.invert-in-Luma8x8.new.out e k c.invert.new.coded
    c.invert-in-Luma8x8.new.coded six c.invert.ensures.marks c.invert-in-Luma8x8.ensures.marks)
    c.invert-in-Luma8x8.ensures.residuals

pub returns-in-Luma4x4 : goal.returns-in-Luma4x4
returns-in-Luma4x4 c = let l = c.args.numbers.now in
    let kind = kind_number c.args.kind in
    let out = c.invert-in-Luma4x4.new.out in
    let not-one = other c.in-Luma4x4.is in
    let m = c.invert-in-Luma4x4.ensures in record {
      value = m.value ∙ ap (λ t. cond t 0 8) (all_told l c.requires.0 ∙ ap (λ t. t && chroma_in_range l) (sym (luma_other l kind not-one)));
      transformed = IfOk-weaker c.invert-in-Luma4x4.result _ _ (λ _ e. kind_other kind not-one (all_transformed l out c.requires.0 e)) m.residuals;
      coded = IfOk-weaker c.invert-in-Luma4x4.result _ _ (λ _ e. all_coded l out c.invert-in-Luma4x4.new.coded c.requires.0 e m.marks) m.residuals;
    }

pub slice_bounds-invert-end-in-Luma8x8-2 : goal.slice_bounds-invert-end-in-Luma8x8-2
slice_bounds-invert-end-in-Luma8x8-2 c = omega (arith, length-take 256 c.args.out.now, c.requires.1)
