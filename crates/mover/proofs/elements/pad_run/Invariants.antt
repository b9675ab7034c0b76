-- `mover::elements::pad_run` stores padding element by element. Assumes nothing.
use Rattle.mover.specs.Private.Runs.{pad_bytes}
use Rattle.mover.proofs.Runs.{Done}
use Rattle.mover.proofs.elements.pad_run.Given as goal

abbrev pub invariant-loop : goal.invariant-loop
invariant-loop l = Done (pad_bytes l.c) l.c.to l.c.stride l.c.n l.initial.dst l.dst l.to l.counter
