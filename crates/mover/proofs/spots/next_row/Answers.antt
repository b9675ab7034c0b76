-- `mover::spots::next_row_lem` goes on from the start of the last one. Assumes nothing.
use Rattle.mover.proofs.spots.next_row.Goals as goal

pub returns : goal.returns
returns c = rw c.onward-row.ensures
