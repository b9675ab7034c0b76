-- `mover::arrays::write` copies all of an array. Assumes nothing.
use Rattle.std.proofs.Common.{arith}
use Rattle.mover.proofs.Blocking.{block_all}
use Rattle.mover.proofs.arrays.write.Goals as goal

pub returns : goal.returns
returns g c = rw (c.copy_block.ensures, block_all g.row.N c.args.a (omega (arith, c.well_formed)))
