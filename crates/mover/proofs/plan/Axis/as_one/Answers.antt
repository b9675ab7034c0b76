-- `mover::plan::Axis::as_one` multiplies. Assumes nothing.
use Rattle.std.proofs.Common.{eq-eqb, ne_eqb}
use Rattle.mover.specs.Private.Folding.{as_one}
use Rattle.mover.proofs.plan.Axis.as_one.Goals as goal

pub returns-then-inner-eq1 : goal.returns-then-inner-eq1
unfolding as_one
returns-then-inner-eq1 c = rw (eq-eqb c.args.inner.extent 1 c.if-inner-eq1.true)

pub returns : goal.returns
unfolding as_one
returns c = rw (ne_eqb c.args.inner.extent 1 c.if-inner-eq1.false)
