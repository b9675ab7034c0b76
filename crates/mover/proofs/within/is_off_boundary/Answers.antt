-- `mover::within::is_off_boundary` looks at what is left of a part's start by whole elements. Assumes nothing.
use Rattle.std.proofs.Common.{refl}
use Rattle.mover.proofs.within.is_off_boundary.Goals as goal

pub returns : goal.returns
returns c = refl
