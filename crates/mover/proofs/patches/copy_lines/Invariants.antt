-- `mover::patches::copy_lines` copies one row after the other, each as a run of bytes. Assumes nothing.
use Rattle.std.proofs.Common.{◌-◌}
use Rattle.mover.proofs.Patched.{Rowed}
use Rattle.mover.proofs.patches.copy_lines.Given as goal

abbrev pub invariant-loop : goal.invariant-loop
invariant-loop l = Rowed l.origin l.initial.dst l.p l.dst l.at l.to l.counter

abbrev pub decreases-loop : goal.decreases-loop
decreases-loop l = l.end - l.counter
