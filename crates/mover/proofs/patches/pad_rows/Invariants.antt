-- `mover::patches::pad_rows` pads one row after the other. Assumes nothing.
use Rattle.std.proofs.Common.{◌-◌}
use Rattle.mover.proofs.Patched.{Padded}
use Rattle.mover.proofs.patches.pad_rows.Given as goal

abbrev pub invariant-loop : goal.invariant-loop
invariant-loop l = Padded l.initial.dst l.p l.dst l.to l.counter

abbrev pub decreases-loop : goal.decreases-loop
decreases-loop l = l.end - l.counter
