-- `numbers::range::narrow` meets its contract: the numbers in range are those of sixteen bits. Assumes nothing.
use mathlib.Core.Path.{sym, ap, subst}
use mathlib.Core.Bool.{cond}
use mir.Facts.{to_z-of_z}
use mir.Syntax.{w16}
use mir.Val.{SFits}
use Rattle.numbers.proofs.InRange.{short_in_range, long_out}
use Rattle.numbers.proofs.range.narrow.Goals as goal

pub returns-in-Ok-clause-value : goal.returns-in-Ok-clause-value
returns-in-Ok-clause-value c =
    let h : SFits w16 c.args.v = subst (SFits w16) (to_z-of_z c.ranges.v) c.in-Ok.ensures.0 in
    sym (ap (λ t. cond t 0 8) (short_in_range c.args.v h))

pub returns-in-Err-clause-value : goal.returns-in-Err-clause-value
returns-in-Err-clause-value c =
    sym (ap (λ t. cond t 0 8) (long_out c.args.v (λ h. c.in-Err.ensures (subst (SFits w16) (sym (to_z-of_z c.ranges.v)) h))))
