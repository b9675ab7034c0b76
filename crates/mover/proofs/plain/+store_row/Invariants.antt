-- `mover::plain::store_row`, which calls itself: the number of dimensions left falls, and a row leaves the memory where its elements end.
-- Assumes nothing.
use Rattle.std.proofs.Common.{◌≡◌, ◌-◌, ◌<◌, ◌≤◌, length}
use Rattle.plane.specs.Arrays.{at}
use Rattle.mover.specs.Private.Rows.{first_of, Stands, Comes}
use Rattle.mover.proofs.Stretches.{come_to}
use Rattle.mover.proofs.plain.+store_row.Given as goal

abbrev pub decreases-store_row : goal.decreases-store_row
decreases-store_row l = l.depth

abbrev pub invariant-loop-c : goal.invariant-loop-c
invariant-loop-c l =
    (l.c ≤ at l.row.answer.extent (l.row.tensor.rank - l.depth)) × (length l.dst ≡ length l.initial.dst) × (come_to l.row l.depth l.c < l.end) ×
    ((h : Stands l.row l.depth l.initial.dst) → Comes h l.first l.end (first_of l.row l.depth) (come_to l.row l.depth l.c) l.dst)

abbrev pub decreases-loop-c : goal.decreases-loop-c
decreases-loop-c l = at l.row.answer.extent (l.row.tensor.rank - l.depth) - l.c
