-- `keeper::returns::uses` tells whether a slot has bytes of a part. Assumes nothing.
use Rattle.keeper.specs.Calls.{uses}
use Rattle.keeper.proofs.returns.uses.Goals as goal

pub returns : goal.returns
unfolding uses
returns c = rw (c.meets-2.ensures, c.meets.ensures)
