-- `macroblock::squares::all_squares` meets its contract: a plane is written by its own square alone. Assumes nothing.
use mathlib.Core.Path.{refl}
use native.Mathlib.Omega.{arith}
use Rattle.cut.specs.Kind.{kind_number}
use Rattle.macroblock.specs.inner.Blocks.{first_for}
use Rattle.macroblock.proofs.ByKind.{first_few}
use Rattle.macroblock.proofs.squares.all_squares.Goals as goal

pub returns : goal.returns
returns c = let kind = kind_number c.args.kind in
    let k = first_for kind in
    let l = first_few kind in
    record {
      lent = record { luma = refl; cb = refl; cr = refl; strides = refl };
      luma_after = c.luma_square.ensures;
      cb_after = λ n T. c.chroma_square.ensures k n (omega arith) T;
      cr_after = λ n T. c.chroma_square-2.ensures k n (omega arith) T;
    }
