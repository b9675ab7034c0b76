-- `mover::shuffles::zipped` stores an element of each half a turn. Assumes nothing.
use Rattle.std.proofs.Common.{◌≡◌, ◌+◌, ◌-◌}
use Rattle.mover.proofs.Shuffled.{Zipping}
use Rattle.mover.proofs.shuffles.zipped.Given as goal

abbrev pub invariant-loop-k : goal.invariant-loop-k
invariant-loop-k g l = Zipping l.t l.half g.row.SIZE l.o l.k × (l.j ≡ l.k + l.k)

abbrev pub decreases-loop-k : goal.decreases-loop-k
decreases-loop-k g l = l.half - l.k
