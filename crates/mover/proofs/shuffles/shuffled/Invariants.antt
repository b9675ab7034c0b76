-- `mover::shuffles::shuffled` reads rows side by side, and shuffles them some times. Assumes nothing.
use Rattle.std.proofs.Common.{◌≡◌, ◌-◌}
use Rattle.mover.specs.Private.Shuffles.{zips, rows_read}
use Rattle.mover.proofs.shuffles.shuffled.Given as goal

abbrev pub invariant-loop : goal.invariant-loop
invariant-loop g l =
    l.a ≡ zips l.s.half g.row.SIZE l.counter (rows_read l.src l.at l.jump l.s.rows g.row.N)

abbrev pub decreases-loop : goal.decreases-loop
decreases-loop g l = l.end - l.counter
