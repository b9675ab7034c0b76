-- `plane::sub::without_units` answers the dimensions that stay. Assumes nothing.
use Prim.Native.Nat.{◌-◌}
use Rattle.plane.specs.Arrays.{at}
use Rattle.plane.specs.Signs.{at_z}
use Rattle.plane.proofs.Staying.{Shrunk}
use Rattle.plane.proofs.sub.without_units.Given as goal

abbrev pub invariant-loop-d : goal.invariant-loop-d
invariant-loop-d l =
    Shrunk l.fn.rank.n (at l.size) (at_z l.stride) l.excess l.shape l.out l.lacking l.k l.d

abbrev pub decreases-loop-d : goal.decreases-loop-d
decreases-loop-d l = l.fn.rank.n - l.d
