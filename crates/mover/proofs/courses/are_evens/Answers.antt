-- `mover::courses::are_evens` compares the run's numbers. Said here, so that a wrong number is refused for what it is, and not at a limit
-- of the search. Assumes nothing.
use Rattle.std.proofs.Common.{eqb-true}
use Rattle.mover.proofs.courses.are_evens.Goals as goal

pub returns-then-c-eq1-2 : goal.returns-then-c-eq1-2
returns-then-c-eq1-2 c t =
    let q = c.if-c-eq1-2.true in
    record { size = q.0; stride = q.1; jump = eqb-true c.args.c.jump 2 t }
