-- `mover::plan::plan_of` makes the plan of an accepted move. Assumes nothing.
use Rattle.std.proofs.Common.{rules, arith}
use Rattle.mover.proofs.Making.{answer_fit, room_strides, axis_is, plan_is, le_bytes_little}
use Rattle.mover.proofs.plan.plan_of.Goals as goal

pub returns : goal.returns
returns c =
    let pad = le_bytes_little c.args.c.fill (omega arith) in
    let e = room_strides c.args.t c.args.c c.requires.0 c.source_of-source.ensures in
    plan_is c.args.t c.args.c c.requires.0 c.requires.1 e (search rules) c.home.ensures c.base.ensures
    (axis_is c.args.t c.args.c c.requires.0 c.requires.1 e 0 (omega arith) c.axis_of_four.ensures)
    (axis_is c.args.t c.args.c c.requires.0 c.requires.1 e 1 (omega arith) c.axis_of_four-2.ensures)
    (axis_is c.args.t c.args.c c.requires.0 c.requires.1 e 2 (omega arith) c.axis_of_four-3.ensures)
    (axis_is c.args.t c.args.c c.requires.0 c.requires.1 e 3 (omega arith) c.axis_of_four-4.ensures)

-- what acceptance tells
pub invariant_of-it : goal.invariant_of-it
invariant_of-it c =
    record { fit = answer_fit c.args.t c.args.c c.requires.0 c.requires.1 }
