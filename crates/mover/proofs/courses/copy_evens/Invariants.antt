-- `mover::courses::copy_evens` copies 16 at a time, and then the rest. Assumes nothing.
use Rattle.std.proofs.Common.{◌*◌}
use Rattle.mover.proofs.Evening.{Evened}
use Rattle.mover.proofs.courses.copy_evens.Given as goal

abbrev pub invariant-loop : goal.invariant-loop
invariant-loop l = Evened l.origin l.initial.dst l.c l.n l.dst l.at l.to (l.counter * 16)
