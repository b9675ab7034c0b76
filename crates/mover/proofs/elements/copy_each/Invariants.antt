-- `mover::elements::copy_each` copies element by element: those still to be read are as they were. Assumes nothing.
use Rattle.std.proofs.Common.{◌≡◌}
use Rattle.mover.specs.Private.Elements.{source_bytes}
use Rattle.mover.specs.Private.Adding.{along}
use Rattle.mover.specs.Private.Runs.{kept_bytes}
use Rattle.mover.proofs.Runs.{Done}
use Rattle.mover.proofs.elements.copy_each.Given as goal

abbrev pub invariant-loop : goal.invariant-loop
invariant-loop l =
    Done (kept_bytes (source_bytes l.origin l.initial.dst) l.c) l.c.to l.c.stride l.c.n l.initial.dst l.dst l.to l.counter × (l.at ≡ along l.c.at l.c.jump l.counter)
