-- `mover::within::leaves` compares a part with the memory's length, without a sum that could wrap. Assumes nothing.
use Rattle.std.proofs.Common.{le-ltb, lt-ltb}
use Rattle.mover.proofs.within.leaves.Goals as goal

pub returns-then-n-p : goal.returns-then-n-p
returns-then-n-p c = simp (lt-ltb _ _ c.if-n-p.true)

pub returns : goal.returns
returns c = simp (le-ltb _ _ c.if-n-p.false)
