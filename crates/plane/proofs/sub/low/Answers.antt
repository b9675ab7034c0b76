-- `plane::sub::low` meets its contract. Assumes nothing.
use native.Mathlib.Omega.{arith}
use Rattle.plane.proofs.sub.low.Goals as goal

pub returns-then-down : goal.returns-then-down
returns-then-down c = simp c.if-down.true (omega arith)

pub returns-else-down : goal.returns-else-down
returns-else-down c = simp c.if-down.false (omega arith)
