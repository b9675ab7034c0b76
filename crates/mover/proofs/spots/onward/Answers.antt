-- `mover::spots::onward` adds a stride, and a jump between two coordinates that are kept. Assumes nothing.
use Rattle.std.proofs.Common.{rules}
use Rattle.mover.specs.Private.Adding.{onward_of}
use Rattle.mover.proofs.spots.onward.Goals as goal

pub returns-then-goes_on : goal.returns-then-goes_on
unfolding onward_of
returns-then-goes_on c = search rules

pub returns-else-goes_on : goal.returns-else-goes_on
unfolding onward_of
returns-else-goes_on c = search rules
