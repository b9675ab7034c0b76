-- `mover::arrays::read` copies into an array of its own. Assumes nothing.
use Rattle.std.proofs.Common.{◌∙◌}
use Rattle.mover.proofs.Blocking.{block_read}
use Rattle.mover.proofs.arrays.read.Goals as goal

pub returns : goal.returns
returns g c = c.copy_block.ensures ∙ block_read c.args.src.now c.args.at g.row.N c.requires
