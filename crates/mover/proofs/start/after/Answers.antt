-- `mover::start::after` multiplies a jump's length, and goes as far up or down. Assumes nothing.
use Rattle.std.proofs.Common.{sym, ◌∙◌, arith}
use Rattle.mover.proofs.Adding.{after_up, after_down}
use Rattle.mover.proofs.start.after.Goals as goal

pub returns-then-goes_down : goal.returns-then-goes_down
returns-then-goes_down c =
    rw c.length_of.ensures
    (after_down c.args.at c.args.jump c.args.n (omega arith) (sym c.goes_down.ensures ∙ c.if-goes_down.true) c.requires)

pub returns-else-goes_down : goal.returns-else-goes_down
returns-else-goes_down c =
    rw c.length_of.ensures (after_up c.args.at c.args.jump c.args.n (omega arith) (sym c.goes_down.ensures ∙ c.if-goes_down.false))
