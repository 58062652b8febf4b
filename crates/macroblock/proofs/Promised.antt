-- The promise holds wherever rule 2 does: each plane's square is cut into blocks, and every such square is local. Assumes nothing.
use mathlib.Core.Path.{◌≡◌}
use mathlib.Core.Bool.{Bool, true}
use Prim.Native.Nat.{ℕ, zero, suc}
use native.Mathlib.Omega.{arith}
use Rattle.maps.specs.Neighbours.{Side}
use Rattle.macroblock.specs.declared.Record.{Record}
use Rattle.macroblock.specs.declared.Strides.{Strides}
use Rattle.cut.specs.Cut.{four, eight, whole, cut_for, square_sides}
use Rattle.cut.proofs.Scan.{scan_1, scan_2, scan_4}
use Rattle.macroblock.specs.Kinds.{luma_rule, chroma_rule}
use Rattle.macroblock.specs.Local.{Local, Promise}
use Rattle.macroblock.specs.Rules.{rooms}
use Rattle.macroblock.specs.Square.{Rule, place_at, all_parts}
use Rattle.macroblock.specs.inner.Blocks.{StandsIn}
use Rattle.macroblock.proofs.Locality.{square_local}
use Rattle.macroblock.proofs.Rooms.{all_stand}

module _ (rule : Rule) (n s x y : ℕ) (marks : Side → Bool) where
  luma_local : (kind : ℕ) → StandsIn 16 (place_at s y x) n (square_sides marks) → Local n 16 s x y marks (all_parts (cut_for kind) rule s x y marks)
  luma_local zero = square_local four rule n s x y marks scan_4 (omega arith) (omega arith)
  luma_local (suc zero) = square_local eight rule n s x y marks scan_2 (omega arith) (omega arith)
  luma_local (suc (suc _)) = square_local (whole 16) rule n s x y marks scan_1 (omega arith) (omega arith)

  chroma_local : StandsIn 8 (place_at s y x) n (square_sides marks) → Local n 8 s x y marks (all_parts (whole 8) rule s x y marks)
  chroma_local = square_local (whole 8) rule n s x y marks scan_1 (omega arith) (omega arith)

pub promised : (x y luma_len cb_len cr_len : ℕ) (s : Strides) (marks : Side → Bool) (r : Record)
    → rooms x y luma_len cb_len cr_len s marks ≡ true → Promise x y luma_len cb_len cr_len s marks r
promised x y n₁ n₂ n₃ s marks r e =
    let w = all_stand x y n₁ n₂ n₃ s marks e in
    record {
      luma = luma_local (luma_rule r.kind r.modes r.numbers) n₁ s.luma x y marks r.kind w.luma;
      cb = chroma_local (chroma_rule r.chroma_mode r.numbers 16) n₂ s.cb x y marks w.cb;
      cr = chroma_local (chroma_rule r.chroma_mode r.numbers 20) n₃ s.cr x y marks w.cr;
    }
