-- `mover::spots::next_layer` goes on from the start of the last one. Assumes nothing.
use Rattle.mover.proofs.spots.next_layer.Goals as goal

pub returns : goal.returns
returns c = rw c.onward-layer.ensures
