-- `reads::groups::filtered` meets its contract: above and left as for 4x4, and what the filter adds to them. Assumes nothing.
use Rattle.std.proofs.Common.{Bool, not, ◌&&◌, ◌||◌, eqb, ap}
use mathlib.Core.Path.{ap₂}
use Rattle.reads.specs.Groups.{Group}
use Rattle.reads.specs.Groups.Group.{above, left}
use Rattle.reads.proofs.Tables.{groups_are}
use Rattle.reads.proofs.groups.filtered.Goals as goal

pub returns : goal.returns
returns c e = let a = c.args in
    let on_above = ap (λ (f : Group → Bool). f above) e in
    let on_left = ap (λ (f : Group → Bool). f left) e in
    groups_are on_above on_left (ap₂ (λ (p q : Bool). (p || q) && a.there.corner) on_above on_left)
    (ap (λ (p : Bool). p && not (eqb a.mode 6) && a.there.above_right) on_above)
