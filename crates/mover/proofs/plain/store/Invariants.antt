-- `mover::plain::store` stores an element byte by byte: those of the source that are still to be read are as they were. Assumes nothing.
use Rattle.std.proofs.Common.{◌≡◌, ◌-◌, ◌≤◌, take}
use lib.Seq.{sets}
use Rattle.mover.specs.Private.Rows.{size_of, row_bytes}
use Rattle.mover.proofs.plain.store.Given as goal

abbrev pub invariant-loop-b : goal.invariant-loop-b
invariant-loop-b l = (l.b ≤ size_of l.row) × (l.dst ≡ sets l.initial.dst l.row.place (take l.b (row_bytes l.row l.initial.dst)))

abbrev pub decreases-loop-b : goal.decreases-loop-b
decreases-loop-b l = size_of l.row - l.b
