-- `mover::patches::copy_rows` copies one row after the other. Assumes nothing.
use Rattle.std.proofs.Common.{◌-◌}
use Rattle.mover.proofs.Patched.{Rowed}
use Rattle.mover.proofs.patches.copy_rows.Given as goal

abbrev pub invariant-loop : goal.invariant-loop
invariant-loop l = Rowed l.origin l.initial.dst l.p l.dst l.at l.to l.counter

abbrev pub decreases-loop : goal.decreases-loop
decreases-loop l = l.end - l.counter
