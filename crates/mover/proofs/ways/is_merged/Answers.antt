-- `mover::ways::is_merged` compares the patch's numbers. Said here, so that a wrong number is refused for what it is, and not at a limit
-- of the search. Assumes nothing.
use Rattle.std.proofs.Common.{eqb-true}
use Rattle.mover.proofs.ways.is_merged.Goals as goal

pub returns-then-p-eq1-3 : goal.returns-then-p-eq1-3
returns-then-p-eq1-3 c t =
    let q = c.if-p-eq1-3.true in
    record { size = q.0; rows = q.1; row_stride = q.2; jump = q.3; stride = eqb-true c.args.p.stride 3 t }
