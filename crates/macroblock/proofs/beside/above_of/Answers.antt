-- `macroblock::beside::above_of` meets its contract: what is read lies in the row above. The invariant of both loops: the samples passed are read. Assumes
-- nothing.
use mathlib.Core.Path.{◌≡◌, ap, ◌∙◌}
use mathlib.Core.Bool.{Bool, true}
use Prim.Native.Nat.{ℕ, ◌+◌, ◌*◌, ◌-◌, ◌≤◌, ◌<◌}
use native.Mathlib.Omega.{arith}
use lib.ListN.{length, get_or, length-take, length-drop}
use Rattle.std.proofs.lemmas.List.{get_or-replicate}
use Rattle.laws.proofs.Stretches.{part_at}
use Rattle.laws.proofs.Tables.{filled_all, table_there, table_absent}
use Rattle.macroblock.specs.declared.place.Place.{Place}
use Rattle.macroblock.specs.Square.{above_of}
use Rattle.macroblock.proofs.Fitting.{in_above, reach_last}
use Rattle.macroblock.proofs.Halves.{rest_put}
use Rattle.macroblock.proofs.beside.above_of.Given.{Over as Ghosts}
use Rattle.macroblock.proofs.beside.above_of.Goals as goal
use Rattle.macroblock.proofs.beside.above_of.Goals.{Then-sides}

-- the row above lies in the plane: its part over the block, and where it is there the part to the right of that
record Over (q : ℕ) (p : Place) (n : ℕ) (right : Bool) : Type 0 where
  pub some : 0 < p.row * q
  pub line : p.row * q ≤ n
  pub product : (p.row * q - 1) * p.stride ≤ n
  pub block : (p.row * q - 1) * p.stride + p.column * q + q ≤ n
  pub next : right ≡ true → (p.row * q - 1) * p.stride + p.column * q + 2 * q ≤ n

over : {g : Ghosts} (c : Then-sides g) → let a = c.args in Over g.row.Q a.place (length a.plane.now) a.sides.above_right
over {g} c = let a = c.args in
    let f = c.requires.stands_in.block in
    let w = in_above f (c.requires.stands_in.beside.on_above c.if-sides.true) in
    let z = a.place.column * g.row.Q in
    record {
      some = w.some;
      line = w.line;
      product = w.product;
      block = omega (arith, f.some, w.whole (z + (g.row.Q - 1)) (omega (arith, f.some, f.wide)));
      next = λ h. omega (arith, f.some, w.whole (z + (2 * g.row.Q - 1)) (omega (arith, f.some, (c.requires.stands_in.beside.on_above_right h).1)));
    }

pub returns-else-sides : goal.returns-else-sides
unfolding above_of
returns-else-sides g c = table_absent g.row.W _ 0 c.args.sides.above _ c.if-sides.false c.requires.zeros

pub bounds-line-t-in-loop-t-then-sides-2 : goal.bounds-line-t-in-loop-t-then-sides-2
bounds-line-t-in-loop-t-then-sides-2 g c = let o = over (goal.at.bounds-line-t-in-loop-t-then-sides-2 g c).Then-sides in
    simp (length-take, length-drop) (omega (arith, o.next c.if-sides-2.true, c.requires.wide))

pub returns-after-loop-t-then-sides-2 : goal.returns-after-loop-t-then-sides-2
unfolding above_of
returns-after-loop-t-then-sides-2 g c = table_there _ _ 0 _ _ c.if-sides.true (filled_all 0 _ _ _ _ (omega arith) c.loop-t-then-sides-2.invariant)

pub returns-else-sides-2 : goal.returns-else-sides-2
unfolding above_of
returns-else-sides-2 g c = let a = c.args in
    let q = g.row.Q in
    let line = (a.place.row * q - 1) * a.place.stride in
    let z = a.place.column * q in
    let n = length a.plane.now - (line + z) in
    let o = over (goal.at.returns-else-sides-2 g c).Then-sides in
    let done = c.loop-t.invariant.done in
    table_there _ _ 0 _ _ c.if-sides.true
    (rest_put q g.row.W _ c.loop-t.out c.fill.new.self (record { long = c.loop-t.invariant.long; done = λ i h. done i (omega arith) }) c.requires.wide.0
    c.fill.ensures.len
    (λ j h b. ap (λ l. get_or l j 0) (c.fill.ensures.after (λ y e. e))
    ∙ get_or-replicate _ j _ 0 (omega (arith, c.fill.ensures.len))
    ∙ part_at 0 a.plane.now (line + z) n (q - 1) (omega (arith, o.block, c.requires.stands_in.block.some))
    ∙ ap (λ n. get_or a.plane.now n 0) (reach_last line z q (q + j) a.sides.above_right c.if-sides-2.false c.requires.stands_in.block.some (omega arith))))
