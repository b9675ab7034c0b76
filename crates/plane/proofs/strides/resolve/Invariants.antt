-- `plane::strides::resolve` meets its contract. Assumes nothing.
use Rattle.plane.specs.Arrays.{at}
use Rattle.plane.proofs.Resolving.{Walked}
use Rattle.plane.proofs.strides.resolve.Given as goal

abbrev pub invariant-loop-dim : goal.invariant-loop-dim
invariant-loop-dim l = Walked l.fn.rank.n (at l.shape) (at l.stride) l.status l.out l.inner l.dim
