-- `plane::signs::with_sign` meets its contract. Assumes nothing.
use mathlib.Core.Path.{sym, ◌∙◌}
use native.Mathlib.Omega.{arith}
use Rattle.plane.proofs.Signed.{tested, negated_fits, negated_is, cast_is}
use Rattle.plane.proofs.signs.with_sign.Goals as goal

pub overflow_sub-result : goal.overflow_sub-result
overflow_sub-result c = negated_fits c.args.size c.requires

pub returns-then-s-lt0 : goal.returns-then-s-lt0
returns-then-s-lt0 c =
    rw (sym (tested c.args.s c.ranges.s) ∙ c.if-s-lt0.true) (negated_is c.args.size c.requires)

pub returns-else-s-lt0 : goal.returns-else-s-lt0
returns-else-s-lt0 c =
    rw (sym (tested c.args.s c.ranges.s) ∙ c.if-s-lt0.false) (cast_is (omega (arith, c.requires)))
