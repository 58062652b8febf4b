-- The promise of a macroblock with a permitted record to the picture that it is part of: what it leaves depends on the neighbours only that its record waits
-- for. No other sample of the planes matters, not even of a neighbour that is available.
use Rattle.std.specs.Prelude.{◌≡◌, Bool, true, ℕ}
use Rattle.maps.specs.Neighbours.{Side}
use Rattle.macroblock.specs.Kinds.{luma_square, cb_square, cr_square}
use Rattle.macroblock.specs.Local.{Local}
use Rattle.macroblock.specs.Rules.{rooms, permitted}
use Rattle.macroblock.specs.declared.Record.{Record}
use Rattle.macroblock.specs.declared.Strides.{Strides}
use Rattle.waits.specs.Waits.{waits}

pub record Narrow (x y luma_len cb_len cr_len : ℕ) (s : Strides) (marks : Side → Bool) (r : Record) : Type 0 where
  pub luma : Local luma_len 16 s.luma x y (waits marks r) (luma_square x y marks r s.luma)
  pub cb : Local cb_len 8 s.cb x y (waits marks r) (cb_square x y marks r s.cb)
  pub cr : Local cr_len 8 s.cr x y (waits marks r) (cr_square x y marks r s.cr)

-- so it is wherever rule 2 of the macroblock call holds
abbrev pub AllNarrow : Type 0
AllNarrow =
    (x y luma_len cb_len cr_len : ℕ) (s : Strides) (marks : Side → Bool) (r : Record)
    → rooms x y luma_len cb_len cr_len s marks ≡ true → permitted marks r ≡ true → Narrow x y luma_len cb_len cr_len s marks r
