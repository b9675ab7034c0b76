-- `mover::alike::kept` compares a coordinate with the padding and the count. Assumes nothing.
use Rattle.std.proofs.Common.{rules}
use Rattle.mover.specs.Private.Elements.{axis_kept}
use Rattle.mover.proofs.alike.kept.Goals as goal

pub returns-then-x-c : goal.returns-then-x-c
unfolding axis_kept
returns-then-x-c c = search rules

pub returns-else-x-c : goal.returns-else-x-c
unfolding axis_kept
returns-else-x-c c = search rules
