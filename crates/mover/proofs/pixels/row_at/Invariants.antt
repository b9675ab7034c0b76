-- `mover::pixels::row_at` goes inward by a coordinate of each dimension. Assumes nothing.
use Rattle.std.proofs.Common.{◌≡◌, ◌-◌, ◌≤◌}
use Rattle.mover.specs.Private.Pixels.{row_to}
use Rattle.mover.proofs.pixels.row_at.Given as goal

abbrev pub invariant-loop-i : goal.invariant-loop-i
invariant-loop-i l = (l.i ≤ l.i-end) × (l.row ≡ row_to l.initial.row l.x l.i)

abbrev pub decreases-loop-i : goal.decreases-loop-i
decreases-loop-i l = l.i-end - l.i
