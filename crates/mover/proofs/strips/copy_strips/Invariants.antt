-- `mover::strips::copy_strips` copies one strip after the other, and then what is left of the rows. Assumes nothing.
use Rattle.std.proofs.Common.{◌-◌}
use Rattle.mover.proofs.Patched.{Rowed}
use Rattle.mover.proofs.strips.copy_strips.Given as goal

abbrev pub invariant-loop-k : goal.invariant-loop-k
invariant-loop-k l = Rowed l.origin l.initial.dst l.p l.dst l.at l.to l.k

abbrev pub decreases-loop-k : goal.decreases-loop-k
decreases-loop-k l = l.p.rows - l.k
