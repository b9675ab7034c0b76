-- `plane::extents::dst_extents` meets its contract. Assumes nothing.
use Prim.Native.Nat.{ℕ, ◌-◌}
use Rattle.plane.specs.Arrays.{at}
use Rattle.plane.specs.Moves.{extent}
use Rattle.plane.proofs.Arrays.{Filled}
use Rattle.plane.proofs.extents.dst_extents.Given as goal

abbrev pub invariant-loop-i : goal.invariant-loop-i
invariant-loop-i l = Filled 0 l.t.rank (λ (k : ℕ). extent l.t l.c (at l.c.perm k)) l.out l.i

abbrev pub decreases-loop-i : goal.decreases-loop-i
decreases-loop-i l = l.t.rank - l.i
