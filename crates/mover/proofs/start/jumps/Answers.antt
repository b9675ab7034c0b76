-- `mover::start::jumps` takes the coordinate, or the nearest that is kept. Assumes nothing.
use Rattle.std.proofs.Common.{rules}
use Rattle.mover.specs.Private.Adding.{jumps_of}
use Rattle.mover.proofs.start.jumps.Goals as goal

pub returns : goal.returns
unfolding jumps_of
returns c = search rules
