-- `mover::arrays::copy_blocks` copies block by block: what is read never changes. Assumes nothing.
use Rattle.std.proofs.Common.{◌≡◌}
use Rattle.mover.specs.Private.Adding.{along}
use Rattle.mover.specs.Private.Runs.{kept_bytes}
use Rattle.mover.proofs.Runs.{Done}
use Rattle.mover.proofs.arrays.copy_blocks.Given as goal

abbrev pub invariant-loop : goal.invariant-loop
invariant-loop l = Done (kept_bytes l.src l.c) l.c.to l.c.stride l.c.n l.initial.dst l.dst l.to l.counter × (l.at ≡ along l.c.at l.c.jump l.counter)
