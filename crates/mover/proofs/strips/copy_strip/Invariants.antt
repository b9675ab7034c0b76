-- `mover::strips::copy_strip` copies one tile after the other, and then what is left of the columns. Assumes nothing.
use Rattle.std.proofs.Common.{◌-◌}
use Rattle.mover.specs.Private.Patches.{swapped_of}
use Rattle.mover.proofs.Patched.{Rowed}
use Rattle.mover.proofs.strips.copy_strip.Given as goal

-- k columns are stored: as many rows, with rows and columns exchanged
abbrev pub invariant-loop-k : goal.invariant-loop-k
invariant-loop-k l = Rowed l.origin l.initial.dst (swapped_of l.p) l.dst l.at l.to l.k

abbrev pub decreases-loop-k : goal.decreases-loop-k
decreases-loop-k l = l.p.columns - l.k
