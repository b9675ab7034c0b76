-- `ready_made::cut` keeps the entries below the rank. Assumes nothing.
use native.Mathlib.Omega.{arith}
use mathlib.Core.Path.{◌≡◌}
use lib.ListN.{length}
use Rattle.ready_made.proofs.Cutting.{cut_over}
use Rattle.ready_made.proofs.cut.Goals as goal

pub returns : goal.returns
returns g c =
    let n : length c.args.a ≡ 4 = omega arith in
    rw c.copy_from_slice.ensures.after (cut_over c.args.zero c.args.n c.args.a c.requires n)
