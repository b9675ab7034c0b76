-- `mover::spots::next_slab` goes on from the start of the last one. Assumes nothing.
use Rattle.mover.proofs.spots.next_slab.Goals as goal

pub returns : goal.returns
returns c = rw c.onward-slab.ensures
