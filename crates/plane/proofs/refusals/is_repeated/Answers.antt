use mathlib.Core.Path.{◌∙◌}
use native.Mathlib.Omega.{arith}
use lib.Dec.{eqb}
use Rattle.plane.specs.Arrays.{at}
use Rattle.plane.proofs.Arrays.{some_any}
use Rattle.plane.proofs.refusals.is_repeated.Goals as goal

pub returns : goal.returns
returns c =
    let a = c.args in
    c.contains.ensures.value ∙ some_any (λ y. eqb y (at a.perm a.i)) a.perm a.i (omega arith)
